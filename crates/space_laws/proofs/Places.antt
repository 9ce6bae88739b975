-- The place of each token goes to the place of the same token in another text; and white and comments keep tokens.
use Rattle.std.proofs.Common.{◌≡◌, ◌≢◌, ◌<◌, ◌≤◌, ◌++◌, ℕ, zero, suc, Bool, true, false, cond, nat_eq, if◌then◌else◌, List, take, drop, Some, None, Result, Ok, Err, refl, ap, ◌∙◌, sym, subst, arith}
use Rattle.std.proofs.lemmas.Bool.Decides.{nat_tests}
use Rattle.std.specs.Prelude.{Option, option_map}
use Rattle.token_model.specs.declared.token.Lexeme.TheVariants as l
use Rattle.token_model.specs.declared.token.Token.{Token}
use Rattle.token_model.specs.declared.fault.Fault.{Fault}
use Rattle.token_model.specs.White.{skipped}
use Rattle.token_model.specs.Remaining.{Remaining, whole, ahead, next_token, lexeme, spelling, next, left, same_lexeme}
use Rattle.clp_grammar.specs.Grammar.{program, goal_text}
use Rattle.turn_laws.proofs.Tokens.{next_no_more, next_fewer, nothing_left, ends_nothing}
use Rattle.space_laws.specs.Same.{behind, SameToken, SameTokens, Matches, IsSameFault, SameResult}
use Rattle.space_laws.specs.Moved.{moved_fault, moved_result}
use Rattle.space_laws.specs.Laws.{SpacesChangeNoProgram, SpacesChangeNoGoal, SpaceKeepsTokens, SpaceBetweenChangesNothing}
use Rattle.space_laws.proofs.Programs.{program_same, goal_text_same}

-- ---- how many tokens stand before a place

-- among so many tokens and one
abbrev tokens_before : ℕ → Remaining → ℕ → Option ℕ
tokens_before zero r p = if nat_eq (left r) p then Some 0 else None
tokens_before (suc m) r p = if nat_eq (left r) p then Some 0 else option_map suc (tokens_before m (next r) p)

is_place : (m : ℕ) (r : Remaining) (p n : ℕ) → tokens_before m r p ≡ Some n → p ≡ left (behind n r)
is_place zero r p n e = go (nat_eq (left r) p) refl e
  where
    go : (t : Bool) → nat_eq (left r) p ≡ t → cond t (Some 0) None ≡ Some n → p ≡ left (behind n r)
    go true h f = let same : p ≡ left (behind 0 r) = grind (arith, nat_tests) in let first : 0 ≡ n = cc in subst (λ (k : ℕ). p ≡ left (behind k r)) first same
    go false h f = absurd (cc)
is_place (suc m) r p n e = go (λ k. is_place m (next r) p k) (nat_eq (left r) p) refl (tokens_before m (next r) p) refl e
  where
    go : ((k : ℕ) → tokens_before m (next r) p ≡ Some k → p ≡ left (behind k (next r))) → (t : Bool) → nat_eq (left r) p ≡ t → (o : Option ℕ) → tokens_before m (next r) p ≡ o → cond t (Some 0) (option_map suc o) ≡ Some n → p ≡ left (behind n r)
    go rest true h o g f = let same : p ≡ left (behind 0 r) = grind (arith, nat_tests) in let first : 0 ≡ n = cc in subst (λ (k : ℕ). p ≡ left (behind k r)) first same
    go rest false h None g f = absurd (cc)
    go rest false h (Some k) g f = let later : suc k ≡ n = cc in subst (λ (i : ℕ). p ≡ left (behind i r)) later (rest k g)

behind_no_more : (n : ℕ) (r : Remaining) → left (behind n r) ≤ left r
behind_no_more zero r = omega arith
behind_no_more (suc n) r = omega (arith, behind_no_more n (next r), next_no_more r)

-- where no bytes are left in a text, none are in one of the same tokens
both_end : (r s : Remaining) → SameTokens r s → left r ≡ 0 → left s ≡ 0
both_end r s h e = ends_nothing s (sym ((h 0).lexeme) ∙ nothing_left r (omega arith))

fewer_behind : (r : Remaining) → left r ≢ 0 → left (next r) < left r
fewer_behind r h = next_fewer r (λ e. h (ends_nothing r e))

-- the place of a token is found, and in a text of the same tokens it is the place of the same token
is_found : (m n : ℕ) (r s : Remaining) → SameTokens r s → left r ≤ m → (k : ℕ) × (tokens_before m r (left (behind n r)) ≡ Some k) × (left (behind k s) ≡ left (behind n s))
is_found m zero r s h w = (0, first m, refl)
  where
    first : (m : ℕ) → tokens_before m r (left r) ≡ Some 0
    first zero = let t : nat_eq (left r) (left r) ≡ true = grind (arith, nat_tests) in rw t refl
    first (suc m) = let t : nat_eq (left r) (left r) ≡ true = grind (arith, nat_tests) in rw t refl
is_found m (suc n) r s h w = go (λ m v. is_found m n (next r) (next s) (λ k. h (suc k)) v) m (nat_eq (left r) (left (behind n (next r)))) refl w
  where
    p : ℕ
    p = left (behind n (next r))

    -- a place that is met twice is the end
    twice : left r ≡ p → left s ≡ left (behind n (next s))
    twice e = over (nat_eq (left r) 0) refl
      where
        over : (t : Bool) → nat_eq (left r) 0 ≡ t → left s ≡ left (behind n (next s))
        over true f =
            let z : left s ≡ 0 = both_end r s h (grind (arith, nat_tests)) in
            let b = behind_no_more n (next s) in
            let c = next_no_more s in
            omega arith
        over false f =
            let some : left r ≢ 0 = grind (arith, nat_tests) in
            let a = fewer_behind r some in
            let b = behind_no_more n (next r) in
            absurd (omega arith)

    go : ((m : ℕ) → left (next r) ≤ m → (k : ℕ) × (tokens_before m (next r) p ≡ Some k) × (left (behind k (next s)) ≡ left (behind n (next s)))) → (m : ℕ) (t : Bool) → nat_eq (left r) p ≡ t → left r ≤ m → (k : ℕ) × (tokens_before m r p ≡ Some k) × (left (behind k s) ≡ left (behind (suc n) s))
    go rest zero true f w = (0, rw f refl, twice (grind (arith, nat_tests)))
    go rest (suc m) true f w = (0, rw f refl, twice (grind (arith, nat_tests)))
    go rest zero false f w =
        let other : left r ≢ p = grind (arith, nat_tests) in
        let b = behind_no_more n (next r) in
        let c = next_no_more r in
        absurd (other (omega arith))
    go rest (suc m) false f w =
        let other : left r ≢ p = grind (arith, nat_tests) in
        let b = behind_no_more n (next r) in
        let some : left r ≢ 0 = λ z. other (let c = next_no_more r in omega arith) in
        let a = fewer_behind r some in
        let found = rest m (omega arith) in
        (suc found.0, rw (f, found.1) refl, found.2)

-- where a place goes to; what is no place of a token goes to the first number
abbrev sent_by : ℕ → Remaining → Option ℕ → ℕ
sent_by none s None = none
sent_by none s (Some n) = left (behind n s)

abbrev sent : ℕ → Remaining → Remaining → ℕ → ℕ
sent none r s p = sent_by none s (tokens_before (left r) r p)

sent_places : (none : ℕ) (r s : Remaining) → SameTokens r s → Matches (sent none r s) r s
sent_places none r s h = record {
  tokens = h;
  places = λ n. let k = is_found (left r) n r s h (omega arith) in ap (sent_by none s) k.1 ∙ k.2;
}

-- a fault that goes with its place, whatever other numbers go to, is at the place of a token
same_fault : (r s : Remaining) (e f : Fault) → ((none : ℕ) → f ≡ moved_fault (sent none r s) e) → IsSameFault r s e f
same_fault r s e f h = record { kind = sym (ap (λ (g : Fault). g.kind) (h 0)); place = go (tokens_before (left r) r e.left) refl }
  where
    go : (o : Option ℕ) → tokens_before (left r) r e.left ≡ o → (n : ℕ) × (e.left ≡ left (behind n r)) × (f.left ≡ left (behind n s))
    go None g =
        let a : f.left ≡ 0 = ap (λ (k : Fault). k.left) (h 0) ∙ ap (sent_by 0 s) g in
        let b : f.left ≡ 1 = ap (λ (k : Fault). k.left) (h 1) ∙ ap (sent_by 1 s) g in
        absurd (omega arith)
    go (Some n) g = (n, is_place (left r) r e.left n g, ap (λ (k : Fault). k.left) (h 0) ∙ ap (sent_by 0 s) g)

pub same_result : {A : Type 0} (r s : Remaining) (o u : Result A Fault) → SameTokens r s → ((to : ℕ → ℕ) → Matches to r s → u ≡ moved_result to o) → SameResult r s o u
same_result r s (Ok a) (Ok b) h same = let e = same (sent 0 r s) (sent_places 0 r s h) in cc
same_result r s (Ok a) (Err f) h same = let e = same (sent 0 r s) (sent_places 0 r s h) in cc
same_result r s (Err e) (Ok b) h same = let e = same (sent 0 r s) (sent_places 0 r s h) in cc
same_result r s (Err e) (Err f) h same = same_fault r s e f (λ none. let g = same (sent none r s) (sent_places none r s h) in cc)

pub spaces_change_no_program : SpacesChangeNoProgram
spaces_change_no_program text other e f h = same_result (whole text) (whole other) (program text) (program other) h (λ to m. program_same to text other e f m)

pub spaces_change_no_goal : SpacesChangeNoGoal
spaces_change_no_goal text other e f h = same_result (whole text) (whole other) (goal_text text) (goal_text other) h (λ to m. goal_text_same to text other e f m)

-- ---- white and comments between tokens

same_token : (r s : Remaining) → ahead r ≡ ahead s → next_token r ≡ next_token s → SameToken r s
unfolding lexeme spelling
same_token r s e f = record { lexeme = ap (λ (t : Token). t.lexeme) f; spelling = ap (λ (t : Token). take t.len (ahead r)) f ∙ ap (take (next_token s).len) e }

same_next : (r s : Remaining) → ahead r ≡ ahead s → next_token r ≡ next_token s → next r ≡ next s
unfolding next lexeme
same_next r s e f =
    ap (λ (t : Token). record { text = drop t.len (ahead r); after_number = same_lexeme t.lexeme l.Number }) f
    ∙ ap (λ (z : List ℕ). record { text = drop (next_token s).len z; after_number = same_lexeme (next_token s).lexeme l.Number }) e

-- from the same token on
from_token : (n : ℕ) (r s : Remaining) → ((k : ℕ) → k < n → SameToken (behind k r) (behind k s)) → ahead (behind n r) ≡ ahead (behind n s) → next_token (behind n r) ≡ next_token (behind n s) → SameTokens r s
from_token zero r s before e f zero = same_token r s e f
from_token zero r s before e f (suc k) = subst (λ (z : Remaining). SameToken (behind k (next r)) (behind k z)) (same_next r s e f) (record { lexeme = refl; spelling = refl })
from_token (suc n) r s before e f zero = before 0 (omega arith)
from_token (suc n) r s before e f (suc k) = from_token n (next r) (next s) (λ j w. before (suc j) (omega arith)) e f k

pub space_keeps_tokens : SpaceKeepsTokens
unfolding ahead
space_keeps_tokens space n r s is h = from_token n r s h.before (sym (ap skipped h.here ∙ is (behind n r).text)) h.token

pub space_between_changes_nothing : SpaceBetweenChangesNothing
space_between_changes_nothing before space after n e f is h =
    spaces_change_no_program (before ++ after) (before ++ space ++ after) e f (space_keeps_tokens space n (whole (before ++ after)) (whole (before ++ space ++ after)) is h)
