use Rattle.entail_find.proofs.Beginning.{count_of}
use Rattle.entail_find.proofs.questions.find_false.Given as goal

abbrev pub ghost-chain : goal.ghost-chain
ghost-chain a = count_of a.items.items
