use Rattle.std.proofs.Common.{◌≤◌, length}
use Rattle.std.specs.Prelude.{All}
use Rattle.clause_loader.specs.WellFormed.{IsWellFormed, IsNarrow}
use Rattle.clp_grammar.specs.Grammar.{program}
use Rattle.grammar_laws.specs.Read.{IsReadClause}
use Rattle.grammar_laws.proofs.Programs.{programs}
use Rattle.clp_reader.proofs.Told.{holds_of_told, each_of}
use Rattle.clp_reader.proofs.texts.read_program.Goals as goal

pub returns-clause-reads : goal.returns-clause-reads
returns-clause-reads c = c.told.ensures (program c.args.text.now) c.read_clauses.ensures

pub returns-clause-formed : goal.returns-clause-formed
returns-clause-formed c =
    holds_of_told (λ cs. All IsWellFormed cs) _ (program c.args.text.now) _ (returns-clause-reads c)
    (λ cs e. each_of IsReadClause IsWellFormed (λ c h. h.formed) cs (programs c.args.text.now cs c.requires e).0)

pub returns-clause-narrow : goal.returns-clause-narrow
returns-clause-narrow c =
    holds_of_told (λ cs. All IsNarrow cs) _ (program c.args.text.now) _ (returns-clause-reads c)
    (λ cs e. each_of IsReadClause IsNarrow (λ c h. h.narrow) cs (programs c.args.text.now cs c.requires e).0)

pub returns-clause-few : goal.returns-clause-few
returns-clause-few c =
    holds_of_told (λ cs. length cs ≤ 4096) _ (program c.args.text.now) _ (returns-clause-reads c) (λ cs e. (programs c.args.text.now cs c.requires e).1)
