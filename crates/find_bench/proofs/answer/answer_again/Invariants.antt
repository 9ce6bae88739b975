use Rattle.find_bench.specs.Answers.{Tells}
use Rattle.find_bench.proofs.answer.answer_again.Given as goal

abbrev pub invariant-loop : goal.invariant-loop
invariant-loop l = Tells l.question.rows.items l.question.target l.last
