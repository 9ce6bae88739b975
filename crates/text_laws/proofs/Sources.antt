-- What is printed of the source of a clause is read as this source.
use Rattle.std.proofs.Common.{◌≡◌, ℕ, ◌≤◌, true, List, ◌∷◌, ◌++◌, length, arith, sym, ◌∙◌, ap, subst, append_assoc, codes}
use Rattle.std.proofs.lemmas.List.Elements.{All-head}
use Rattle.std.specs.Str.{is_utf8}
use Rattle.token_model.specs.White.{skipped}
use Rattle.token_model.specs.Remaining.{ahead}
use Rattle.clp_model.specs.Trees.{depth}
use Rattle.clp_model.specs.Clauses.{Clause}
use Rattle.clp_model.specs.Canonical.{clause_depth, place_in}
use Rattle.clp_model.proofs.Membership.{Among}
use Rattle.clp_model.proofs.RenamedTrees.{greatest_depth_mapped}
use Rattle.linear_model.specs.Normal.{IsNormal, is_within}
use Rattle.linear_laws.proofs.Lists.{mapped_out}
use Rattle.clause_model.specs.Variables.{variables_as_printed}
use Rattle.clause_model.specs.Source.{source_of}
use Rattle.clause_laws.proofs.Upto.{upto_within}
use Rattle.clause_laws.proofs.Written.{written, written_rises, written_normal}
use Rattle.clause_laws.proofs.NewClause.{written_within}
use Rattle.name_laws.proofs.Trees.{atom_mapped}
use Rattle.name_laws.proofs.Clauses.{atoms_mapped}
use Rattle.clp_grammar.specs.Input.{max_open}
use Rattle.print_model.specs.Joined.{joined}
use Rattle.print_model.specs.Terms.{atom_text}
use Rattle.print_model.specs.Clauses as text
use Rattle.standing_model.specs.Names.{is_short, is_ordinary}
use Rattle.standing_model.specs.Parsable.{HasShortNames, IsParsable}
use Rattle.parsing_laws.proofs.Terms.{atom_written}
use Rattle.parsing_laws.proofs.Texts.{atom_text_is}
use Rattle.text_laws.specs.Laws.{IsPrintable, PrintedSourcesAreTexts, PrintedSourcesAreThemselves}
use Rattle.text_laws.proofs.Printable.{IsWritable, writable, parsable}
use Rattle.text_laws.proofs.Numbered.{source_printed, source_again, names_few, row_place}
use Rattle.text_laws.proofs.Texts.{unended_is_text}
use Rattle.text_laws.proofs.Programs.{clause_read}
use Rattle.text_laws.proofs.Loading.{source_nums}

pub source_writable : (c : Clause) → IsPrintable c → IsWritable (source_of c)
unfolding source_of clause_depth
source_writable c h =
    let canonical = h.canonical in
    let own = writable c h in
    let names = variables_as_printed c in
    let place = place_in names in
    record {
      rows = mapped_out (written place) c.rows (λ r. IsNormal r × (is_within r ≡ true)) (λ r a.
          let known = own.rows r a in
          (record { rising = written_rises place r; stays = written_normal place r }, written_within place r known.0 (row_place c canonical r a) known.1));
      deep = subst (λ n. n ≤ 256) (sym (greatest_depth_mapped place (c.head ∷ c.body))) own.deep;
      small = λ n a. let w = (upto_within (length names) n (subst (Among n) (source_printed c canonical) a)).1 in let few = names_few c canonical in omega arith;
      over = record { head = atom_mapped is_short is_ordinary place c.head h.over.head; body = atoms_mapped is_short is_ordinary place c.body h.over.body };
      texts = record { head = atom_mapped is_utf8 is_ordinary place c.head h.texts.head; body = atoms_mapped is_utf8 is_ordinary place c.body h.texts.body };
      nums = source_nums c h.nums;
    }

-- no atom begins with white or a comment
atom_stays : (c : Clause) (z : List ℕ) → IsParsable c → skipped (atom_text c.head ++ z) ≡ atom_text c.head ++ z
atom_stays c z h =
    let place = place_in (variables_as_printed c) in
    let deep : depth c.head ≤ max_open = omega (arith, h.deep) in
    let w = atom_written place c.head max_open (All-head HasShortNames c.head c.body h.names) deep in
    subst (λ t. skipped (t ++ z) ≡ t ++ z) (atom_text_is place c.head) (w.stays z)

pub sources_are_texts : PrintedSourcesAreTexts
sources_are_texts c h = unended_is_text (source_of c) (source_writable c h)

pub sources_are_themselves : PrintedSourcesAreThemselves
sources_are_themselves c r z h ends front =
    let s = source_of c in
    let own = source_writable c h in
    let body = joined (codes " :- ") (codes ", ") (text.goals s) in
    let parts : ahead r ≡ atom_text s.head ++ (body ++ 46 ∷ z) =
    front ∙ (ap skipped (append_assoc (atom_text s.head) body (46 ∷ z)) ∙ atom_stays s (body ++ 46 ∷ z) (parsable s own)) in
    let back = clause_read s r z own ends parts in
    (back.source, back.is, back.means ∙ source_again c h.canonical)
