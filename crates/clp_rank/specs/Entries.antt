-- The rank at clauses: an entry is a clause with its mark, and a program a list of entries.
use Rattle.std.specs.Prelude.{◌≡◌, List, Bool, true, Contains}
use Rattle.clp_model.specs.Values.{GroundAtom}
use Rattle.clp_model.specs.Clauses.{Clause, Instance}
use Rattle.clp_model.specs.Proof.{Proof}
use Rattle.clp_rank.specs.Ranked.{Setting, InstanceIn, Ranked}

pub record Entry : Type 0 where
  pub clause : Clause
  pub mark : Bool

-- the instances of entries are their clauses' instances; `defined` says of which atoms the predicate is defined
abbrev pub setting : (GroundAtom → Bool) → Setting
setting defined = record {
  Atom = GroundAtom;
  Clause = Entry;
  instance_of = λ e. Instance e.clause;
  mark = λ e. e.mark;
  defined = defined;
}

-- provable by the clauses of these entries
abbrev pub ProvableBy : List Entry → GroundAtom → Type 0
ProvableBy program a = Proof (InstanceIn (setting (λ _. true)) (Contains program)) a

abbrev pub RankedOver : (GroundAtom → Bool) → List Entry → List Entry → Type 0
RankedOver defined base live = Ranked (setting defined) (Contains base) (Contains live)

-- a set of atoms, given by a test
abbrev pub Satisfies : (GroundAtom → Bool) → GroundAtom → Type 0
Satisfies test a = test a ≡ true
