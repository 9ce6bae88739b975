-- What a look at a term shows.
use Rattle.std.specs.Prelude.{◌≡◌, List}
use Rattle.clp_model.specs.declared.tree.Variable.{Variable}
use Rattle.clp_model.specs.declared.tree.Tree.{Tree, App}
use Rattle.term_store.specs.declared.term.Look.{Look}
use Rattle.term_store.specs.declared.term.Look.TheVariants as look
use Rattle.term_store.specs.Trees.{variable, trees_at, AreIn}

-- the variable, or the name and the terms of the arguments
abbrev pub Shows : List (Tree Variable) → Tree Variable → Look → Type 0
Shows store tree (look.Var n s) = tree ≡ variable n s
Shows store tree (look.App name args) = (tree ≡ App name.now (trees_at store args.now)) × AreIn store args.now
