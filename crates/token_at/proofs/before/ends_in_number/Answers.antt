use Rattle.token_at.proofs.Back.{whole_text}
use Rattle.token_at.proofs.before.ends_in_number.Goals as goal

pub loop-b-init : goal.loop-b-init
loop-b-init c = whole_text c.args.text.now
