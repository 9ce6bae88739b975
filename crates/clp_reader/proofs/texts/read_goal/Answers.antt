use Rattle.clause_loader.specs.WellFormed.{IsWellFormed, IsNarrow}
use Rattle.clp_grammar.specs.Grammar.{goal_text}
use Rattle.grammar_laws.proofs.Programs.{goals}
use Rattle.clp_reader.proofs.Told.{holds_of_told}
use Rattle.clp_reader.proofs.texts.read_goal.Goals as goal

pub returns-clause-reads : goal.returns-clause-reads
returns-clause-reads c = c.told.ensures (goal_text c.args.text.now) c.goal.ensures

pub returns-clause-formed : goal.returns-clause-formed
returns-clause-formed c =
    holds_of_told IsWellFormed _ (goal_text c.args.text.now) _ (returns-clause-reads c) (λ d e. (goals c.args.text.now d c.requires e).formed)

pub returns-clause-narrow : goal.returns-clause-narrow
returns-clause-narrow c =
    holds_of_told IsNarrow _ (goal_text c.args.text.now) _ (returns-clause-reads c) (λ d e. (goals c.args.text.now d c.requires e).narrow)
