-- Trees whose variables are numbered by place in a list.
use Rattle.std.proofs.Common.{◌≡◌, ℕ, ◌+◌, ◌<◌, List, [], ◌∷◌, ◌++◌, length, take, get_or, refl, ap, ◌∙◌}
use Rattle.clp_model.specs.declared.sort.Sort.{Sort}
use Rattle.clp_model.specs.declared.tree.Variable.{Variable}
use Rattle.clp_model.specs.declared.tree.Tree.{Tree, Var, App}
use Rattle.clp_model.specs.Trees.{mapped, mapped_all}
use Rattle.clp_model.specs.Canonical.{place_in}
use Rattle.clp_model.proofs.Trees.{mapped_app, mapped_var}
use Rattle.term_store.specs.Trees.{variable, trees_at}
use Rattle.term_store.proofs.Keeping.{trees_at_more}
use Rattle.clause_store.specs.Stored.{number_of, atom_at, atoms_at}

pub numbered_var : (met : List ℕ) (tree : Tree Variable) (n : ℕ) (s : Sort) → tree ≡ variable n s → mapped (place_in met) (mapped number_of tree) ≡ Var (place_in met n)
numbered_var met tree n s is =
    ap (λ t. mapped (place_in met) (mapped number_of t)) is
    ∙ (ap (mapped (place_in met)) (mapped_var number_of (record { number = n; sort = s })) ∙ mapped_var (place_in met) n)

pub numbered_app : (met : List ℕ) (tree : Tree Variable) (name : List ℕ) (ts : List (Tree Variable)) → tree ≡ App name ts
    → mapped (place_in met) (mapped number_of tree) ≡ App name (mapped_all (place_in met) (mapped_all number_of ts))
numbered_app met tree name ts is =
    ap (λ t. mapped (place_in met) (mapped number_of t)) is
    ∙ (ap (mapped (place_in met)) (mapped_app number_of name ts) ∙ mapped_app (place_in met) name (mapped_all number_of ts))

mapped_push : {V W : Type 0} (f : V → W) (ts : List (Tree V)) (t : Tree V) → mapped_all f (ts ++ t ∷ []) ≡ mapped_all f ts ++ mapped f t ∷ []
mapped_push f [] t = refl
mapped_push f (u ∷ ts) t = ap (λ v. mapped f u ∷ v) (mapped_push f ts t)

-- one more term
pub numbered_more : (met : List ℕ) (store : List (Tree Variable)) (terms : List ℕ) (i term : ℕ) → i < length terms → term ≡ get_or terms i term
    → mapped_all (place_in met) (atoms_at store (take (i + 1) terms)) ≡ mapped_all (place_in met) (atoms_at store (take i terms)) ++ mapped (place_in met) (atom_at store term) ∷ []
numbered_more met store terms i term within item =
    ap (mapped_all (place_in met)) (ap (mapped_all number_of) (trees_at_more store terms i term within item) ∙ mapped_push number_of (trees_at store (take i terms)) _)
    ∙ mapped_push (place_in met) (atoms_at store (take i terms)) (atom_at store term)
