use Rattle.clause_loader.specs.WellFormed.{IsWellFormed, IsNarrow}
use Rattle.clp_grammar.specs.Grammar.{clause_at}
use Rattle.grammar_laws.proofs.Programs.{clauses}
use Rattle.clp_reader.proofs.Told.{holds_of_told}
use Rattle.clp_reader.proofs.places.clause_at.Goals as goal

pub returns-clause-reads : goal.returns-clause-reads
returns-clause-reads c = c.told.ensures (clause_at c.args.text.now c.args.at) c.clause_from.ensures

pub returns-clause-formed : goal.returns-clause-formed
returns-clause-formed c =
    holds_of_told (λ p. IsWellFormed p.0) _ (clause_at c.args.text.now c.args.at) _ (returns-clause-reads c)
    (λ p is. (clauses c.args.text.now c.args.at p.0 p.1 c.requires.small is).formed)

pub returns-clause-narrow : goal.returns-clause-narrow
returns-clause-narrow c =
    holds_of_told (λ p. IsNarrow p.0) _ (clause_at c.args.text.now c.args.at) _ (returns-clause-reads c)
    (λ p is. (clauses c.args.text.now c.args.at p.0 p.1 c.requires.small is).narrow)
