use Rattle.rules_fold.proofs.ShownImages.{image_shown}
use Rattle.rules_fold.proofs.showing.show_image.Goals as goal

pub returns-clause-accepted : goal.returns-clause-accepted
returns-clause-accepted c =
    image_shown c.args.show.now c.args.numbers.now c.args.certificates.now c.args.rows.now c.args.row.now c.in_ok-image.image c.in_ok-certificate.certificate c.push.new.self c.len-before.result
    c.len-before.ensures c.in_ok-push.ensures.ok c.in_ok-image.ensures.kept.within c.in_ok-image.ensures.value c.in_ok-certificate.ensures.accepted
