-- The printed text of steps and scripts.
use Rattle.std.specs.Prelude.{ℕ, ℤ, ◌<◌, ◌≤◌, ◌^◌, ◌≡◌, true, All, List, [], ◌∷◌, ◌++◌, map, length, codes, decimal}
use Rattle.std.specs.Fmt.{signed_decimal}
use Rattle.case_table.specs.declared.rule_word.RuleWord.{RuleWord}
use Rattle.case_table.specs.declared.rule_word.RuleWord.TheVariants as rule
use Rattle.case_table.specs.Rules.{rule_word}
use Rattle.clp_model.specs.declared.predicate.Pred.{Pred}
use Rattle.clp_model.specs.declared.tree.Tree.{Tree}
use Rattle.clp_model.specs.Clauses.{Row}
use Rattle.clause_store.specs.declared.source.SourceClause.{SourceClause}
use Rattle.clause_store.specs.Source.{meaning_of}
use Rattle.token_model.specs.Names.{max_name}
use Rattle.linear_model.specs.Normal.{IsNormal, is_within}
use Rattle.linear_model.specs.Certificates.{Part}
use Rattle.farkas_check.specs.declared.cert.Cert.{Cert}
use Rattle.farkas_check.specs.declared.cert.Cert.TheVariants.{One, Two}
use Rattle.farkas_check.specs.Parts.{part_within}
use Rattle.print_model.specs.Joined.{joined}
use Rattle.print_model.specs.Names as names
use Rattle.print_model.specs.Terms.{term_text, atom_text}
use Rattle.print_model.specs.Rows.{row_text}
use Rattle.print_model.specs.Clauses.{constraints, braces}
use Rattle.map_model.specs.declared.shown.Shown.{Shown}
use Rattle.map_model.specs.declared.shown.Shown.TheVariants.{Find, Given}
use Rattle.map_model.specs.declared.shown.Shows.{Shows}
use Rattle.map_model.specs.declared.shown.Shows.TheVariants as shows
use Rattle.map_model.specs.declared.step.Step.{Step}
use Rattle.map_model.specs.declared.step.Step.TheVariants.{Define, Unfold, Fold, DeleteFalse, Merge, Add, Drop, Project, Equate}
use Rattle.script_grammar.specs.Script.{max_steps}

-- a space, and a word of a step
abbrev pub word_text : RuleWord → List ℕ
word_text word = codes " " ++ rule_word word

-- a space, and a number
abbrev pub field_text : ℕ → List ℕ
field_text n = codes " " ++ decimal n

-- ---- predicates and lists

-- the name, and how many arguments it has
abbrev pub predicate_text : Pred → List ℕ
predicate_text p = names.predicate_text p.name ++ (codes "/" ++ decimal p.arity)

-- these texts in square brackets
abbrev pub list_text : List (List ℕ) → List ℕ
list_text [] = codes "[]"
list_text (x ∷ xs) = codes "[" ++ (x ++ (joined (codes ",") (codes ",") xs ++ codes "]"))

-- a space, and numbers
abbrev pub fields_text : List ℕ → List ℕ
fields_text ns = codes " " ++ list_text (map decimal ns)

-- ---- certificates

abbrev pub part_text : Part → List ℕ
part_text p = codes "[" ++ (signed_decimal p.k ++ (joined (codes ",") (codes ",") (map signed_decimal p.m) ++ codes "]"))

abbrev pub certificate_text : Cert → List ℕ
certificate_text (One p) = part_text p
certificate_text (Two p q) = part_text p ++ (codes "/" ++ part_text q)

-- `show` and a certificate, or `find` in its place
abbrev pub show_text : Shown → List ℕ
show_text Find = word_text rule.Show ++ word_text rule.Find
show_text (Given c) = word_text rule.Show ++ (codes " " ++ certificate_text c)

-- what shows one of several rows
abbrev pub shown_text : Shown → List ℕ
shown_text Find = rule_word rule.Find
shown_text (Given c) = certificate_text c

-- `show` and what shows each row, or `find` in its place
abbrev pub all_shown_text : Shows → List ℕ
all_shown_text shows.Find = word_text rule.Show ++ word_text rule.Find
all_shown_text (shows.Each list) = word_text rule.Show ++ (codes " " ++ list_text (map shown_text list))

-- ---- source clauses

-- an equation between terms
abbrev pub equation_text : Tree ℕ × Tree ℕ → List ℕ
equation_text e = term_text e.0 ++ (codes " = " ++ term_text e.1)

-- the constraints, the equations and then the atoms
abbrev pub source_goals : SourceClause → List (List ℕ)
source_goals s = braces (constraints (meaning_of s)) ++ (map equation_text s.equations ++ map atom_text s.atoms)

-- as a clause is printed, without its end; the clause of a filled step has no equations
unfoldable pub source_text : SourceClause → List ℕ
source_text s = atom_text s.head ++ joined (codes " :- ") (codes ", ") (source_goals s)

-- ---- steps

-- the words and fields of a step
unfoldable pub words_text : Step → List ℕ
words_text (Define source) = rule_word rule.Define ++ (codes " " ++ source_text source)
words_text (Unfold id position) = rule_word rule.Unfold ++ (field_text id ++ (word_text rule.At ++ field_text position))
words_text (Fold id at by images keep show) = rule_word rule.Fold ++ (field_text id ++ (word_text rule.At ++ (fields_text at
    ++ (word_text rule.By ++ (codes " " ++ (predicate_text by ++ (word_text rule.With ++ (fields_text images ++ (word_text rule.Keep ++ (fields_text keep ++ all_shown_text show))))))))))
words_text (DeleteFalse id show) = rule_word rule.Delete ++ (field_text id ++ (word_text rule.False ++ show_text show))
words_text (Merge id first second) = rule_word rule.Merge ++ (field_text id ++ (word_text rule.At ++ (field_text first ++ (codes "," ++ decimal second))))
words_text (Add id row show) = rule_word rule.Add ++ (field_text id ++ (word_text rule.Row ++ (codes " " ++ (row_text row ++ show_text show))))
words_text (Drop id row show) = rule_word rule.Drop ++ (field_text id ++ (word_text rule.Row ++ (field_text row ++ show_text show)))
words_text (Project id var) = rule_word rule.Project ++ (field_text id ++ (word_text rule.Var ++ field_text var))
words_text (Equate id var to show) = rule_word rule.Equate ++ (field_text id ++ (word_text rule.Var ++ (field_text var ++ (word_text rule.To ++ (field_text to ++ show_text show)))))

-- a step, which ends with `.`
abbrev pub step_text : Step → List ℕ
step_text step = words_text step ++ codes "."

-- the lines of steps
unfoldable pub steps_text : List Step → List ℕ
steps_text [] = []
steps_text (s ∷ steps) = step_text s ++ (codes "\n" ++ steps_text steps)

-- the version line, and a line for each step
unfoldable pub script_text : List Step → List ℕ
script_text steps = codes "map script 1.\n" ++ steps_text steps

-- ---- steps that a script may have

-- the number of an id, a position or a variable
abbrev pub IsField : ℕ → Type 0
IsField n = n < 2 ^ 32

abbrev pub IsCertificate : Cert → Type 0
IsCertificate (One p) = part_within p ≡ true
IsCertificate (Two p q) = (part_within p ≡ true) × (part_within q ≡ true)

abbrev pub IsShown : Shown → Type 0
IsShown Find = Unit {0}
IsShown (Given c) = IsCertificate c

abbrev pub AreShown : Shows → Type 0
AreShown shows.Find = Unit {0}
AreShown (shows.Each list) = All IsShown list

-- a predicate whose name is not too long
pub record IsPredicate (p : Pred) : Type 0 where
  pub short : length p.name ≤ max_name
  pub arity : IsField p.arity

-- a variable that can be written
abbrev pub IsVariable : ℕ × ℤ → Type 0
IsVariable p = (0 < p.0) × (p.0 < 2 ^ 32)

-- a row in normal form, in range, whose variables can be written
pub record IsRow (row : Row) : Type 0 where
  pub normal : IsNormal row
  pub within : is_within row ≡ true
  pub variables : All IsVariable row.pairs

-- its numbers are in range; what is asked of the source of a definition is said beside
abbrev pub IsInRange : Step → Type 0
IsInRange (Define source) = Unit {0}
IsInRange (Unfold id position) = IsField id × IsField position
IsInRange (Fold id at by images keep show) = IsField id × All IsField at × IsPredicate by × All IsField images × All IsField keep × AreShown show
IsInRange (DeleteFalse id show) = IsField id × IsShown show
IsInRange (Merge id first second) = IsField id × IsField first × IsField second
IsInRange (Add id row show) = IsField id × IsRow row × IsShown show
IsInRange (Drop id row show) = IsField id × IsField row × IsShown show
IsInRange (Project id var) = IsField id × IsField var
IsInRange (Equate id var to show) = IsField id × IsField var × IsField to × IsShown show

-- steps that a script may have
pub record IsScript (steps : List Step) : Type 0 where
  pub few : length steps ≤ max_steps
  pub in_range : All IsInRange steps
