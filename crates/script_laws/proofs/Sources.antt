-- The clauses of printed definitions are read again.
use Rattle.std.proofs.Common.{◌≡◌, Bool, false, List, ◌∷◌, ◌++◌, map, refl, sym, ◌∙◌, ap, ℕ, Ok, codes}
use Rattle.token_model.specs.White.{skipped}
use Rattle.token_model.specs.Remaining.{Remaining, ahead}
use Rattle.token_model.specs.Parsers.{Outcome, and_then, pure}
use Rattle.clp_model.specs.Clauses.{Clause}
use Rattle.clause_model.specs.Source.{source_of}
use Rattle.clause_store.specs.declared.source.SourceClause.{SourceClause}
use Rattle.clause_store.specs.Source.{meaning_of}
use Rattle.print_model.specs.Joined.{joined}
use Rattle.print_model.specs.Terms.{atom_text}
use Rattle.print_model.specs.Clauses.{constraints, braces}
use Rattle.parsing_laws.specs.Behind.{behind, IsEndBefore}
use Rattle.map_model.specs.declared.step.Step.TheVariants.{Define}
use Rattle.map_model.specs.Defining.{as_source}
use Rattle.text_laws.specs.Laws.{IsPrintable, unended_text}
use Rattle.text_laws.proofs.Sources.{sources_are_themselves}
use Rattle.script_grammar.specs.Script.{define_fields}
use Rattle.script_grammar.specs.ScriptText.{equation_text, source_text}
use Rattle.script_laws.proofs.Tokens.{Reads}

-- the text of what a source clause stands for
abbrev text_of : Clause → List ℕ
text_of c = atom_text c.head ++ joined (codes " :- ") (codes ", ") (braces (constraints c) ++ (map equation_text c.equations ++ map atom_text c.body))

-- the source of a clause has no equations
no_equations : (c : Clause) → text_of (source_of c) ≡ unended_text (source_of c)
unfolding source_of
no_equations c = refl

pub source_text_is : (source : SourceClause) (c : Clause) → meaning_of source ≡ source_of c → source_text source ≡ unended_text (source_of c)
unfolding source_text
source_text_is source c means = ap text_of means ∙ no_equations c

-- where two stand for the same, they are the same
same_source : (s t : SourceClause) → meaning_of s ≡ meaning_of t → s ≡ t
same_source s t e = ap as_source e

-- the clause stands behind a space
pub define_read : (source : SourceClause) (c : Clause) (rest : List ℕ) → IsPrintable c → meaning_of source ≡ source_of c → IsEndBefore rest
    → Reads define_fields (32 ∷ (source_text source ++ 46 ∷ rest)) (Define source) rest
unfolding define_fields ahead skipped
define_read source c rest h means ends = record { is = λ n. (false, go n) }
  where
    text : List ℕ
    text = 32 ∷ (source_text source ++ 46 ∷ rest)

    go : (n : Bool) → define_fields (behind (32 ∷ (source_text source ++ 46 ∷ rest)) n) ≡ Ok (Define source, behind rest false)
    go n =
        let r = behind (32 ∷ (source_text source ++ 46 ∷ rest)) n in
        let back = sources_are_themselves c r rest h ends (ap (λ (z : List ℕ). skipped (z ++ 46 ∷ rest)) (source_text_is source c means)) in
        ap (λ (o : Outcome Remaining SourceClause). and_then o (λ s. pure (Define s))) back.1
        ∙ ap (λ (s : SourceClause). Ok (Define s, behind rest false)) (same_source back.0 source (back.2 ∙ sym means))
