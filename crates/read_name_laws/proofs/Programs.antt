-- The clauses of programs have names in UTF-8.
use Rattle.std.proofs.Common.{◌≡◌, ◌≤◌, ◌-◌, ℕ, zero, suc, take, List, [], ◌∷◌, ◌++◌, length, Bool, true, false, nat_lt, if◌then◌else◌, IsUtf8, Option, Some, None, Result, Ok, Err, refl, subst, arith}
use Rattle.std.specs.Prelude.{All}
use Rattle.std.specs.Str.{is_utf8}
use Rattle.std.specs.Str.Lossy.{utf8_valid_len, valid_len_up_to}
use Rattle.std.proofs.lemmas.Bool.Decides.{nat_tests}
use Rattle.std.proofs.lemmas.List.Elements.{All-nil, All-cons, All-head, All-tail, All-push}
use Rattle.std.proofs.lemmas.Str.{IsUtf8-nil, IsUtf8-from_is_utf8, utf8_valid_len_le}
use Rattle.std.proofs.Math.Seq.{take-length}
use Rattle.token_model.specs.declared.token.Lexeme.{Lexeme}
use Rattle.token_model.specs.declared.token.Lexeme.TheVariants as l
use Rattle.token_model.specs.declared.fault.Kind.TheVariants as fault
use Rattle.token_model.specs.declared.fault.Fault.{Fault}
use Rattle.token_model.specs.Remaining.{Remaining, whole, lexeme, left}
use Rattle.token_model.specs.Parsers.{Outcome}
use Rattle.token_cursor.specs.Utf8.{not_utf8}
use Rattle.clp_model.specs.declared.tree.Tree.{Tree}
use Rattle.clp_model.specs.declared.predicate.Pred.{Pred}
use Rattle.clause_store.specs.declared.source.SourceClause.{SourceClause}
use Rattle.name_laws.specs.Names.{HasNames, IsAtomOver}
use Rattle.clp_grammar.specs.declared.draft.Draft.{Draft}
use Rattle.clp_grammar.specs.Input.{Input, start}
use Rattle.clp_grammar.specs.Drafts.{draft, end}
use Rattle.clp_grammar.specs.Directives.{directive}
use Rattle.clp_grammar.specs.Evaluation.{with_value}
use Rattle.clp_grammar.specs.Clauses.{meaning, unless}
use Rattle.clp_grammar.specs.Grammar.{max_clauses, meant, clause_with, clause, past_limit, next_clause, clauses_by, clauses_from, program}
use Rattle.read_name_laws.specs.Laws.{HasTextNames, ReadProgramsHaveTextNames, TextNamesAreOver}
use Rattle.read_name_laws.proofs.Drafts.{draft_texts, directive_text}
use Rattle.read_name_laws.proofs.Terms.{meaning_texts}

-- ---- clauses

abbrev pub IsReadText : Result (SourceClause × Remaining) Fault → Type 0
IsReadText (Ok p) = HasTextNames p.0 × IsUtf8 p.1.text
IsReadText (Err e) = Unit {0}

pub clause_texts : (r : Remaining) → IsUtf8 r.text → IsReadText (clause r)
unfolding clause_with
clause_texts r u = go (draft end (start r)) refl
  where
    meant_by : (p : Draft × Input) → draft end (start r) ≡ Ok p → (v : Result SourceClause Fault) → meaning p.0 ≡ v → IsReadText (with_value v (λ c. Ok (c, p.1.remaining)))
    meant_by p e (Ok c) is = let t = draft_texts r u p.0 p.1 e in (meaning_texts p.0 c t.1 is, t.0)
    meant_by p e (Err x) is = tt

    go : (o : Outcome Input Draft) → draft end (start r) ≡ o → IsReadText (meant o)
    go (Ok p) e = meant_by p e (meaning p.0) refl
    go (Err x) e = tt

next_texts : (found : List SourceClause) (r : Remaining) → IsUtf8 r.text → IsReadText (next_clause found r)
unfolding next_clause
next_texts found r u = go (nat_lt (length found) max_clauses)
  where
    go : (b : Bool) → IsReadText (if b then clause r else Err (past_limit r))
    go true = clause_texts r u
    go false = tt

-- ---- programs

abbrev AreRead : Result (List SourceClause) Fault → Type 0
AreRead (Ok cs) = All HasTextNames cs
AreRead (Err e) = Unit {0}

clauses_texts : (turns : ℕ) (found : List SourceClause) (r : Remaining) → All HasTextNames found → IsUtf8 r.text → AreRead (clauses_from turns found r)
unfolding clauses_from
clauses_texts zero found r all u = all
clauses_texts (suc turns) found r all u = by (clauses_texts turns) (lexeme r) refl
  where
    one_more : ((found : List SourceClause) (s : Remaining) → All HasTextNames found → IsUtf8 s.text → AreRead (clauses_from turns found s))
        → (o : Result (SourceClause × Remaining) Fault) → IsReadText o → AreRead (with_value o (λ p. clauses_from turns (found ++ p.0 ∷ []) p.1))
    one_more rest (Ok p) h = rest (found ++ p.0 ∷ []) p.1 (All-push HasTextNames found p.0 all h.0) h.1
    one_more rest (Err e) h = tt

    passed_over : ((found : List SourceClause) (s : Remaining) → All HasTextNames found → IsUtf8 s.text → AreRead (clauses_from turns found s))
        → lexeme r ≡ l.If → (o : Result Remaining Fault) → directive r ≡ o → AreRead (with_value o (clauses_from turns found))
    passed_over rest comes (Ok s) e = rest found s all (directive_text r s u comes e)
    passed_over rest comes (Err x) e = tt

    by : ((found : List SourceClause) (s : Remaining) → All HasTextNames found → IsUtf8 s.text → AreRead (clauses_from turns found s))
        → (k : Lexeme) → lexeme r ≡ k → AreRead (clauses_by (clauses_from turns) found r k)
    by rest l.Finish comes = all
    by rest l.If comes = passed_over rest comes (directive r) refl
    by rest _ comes = one_more rest (next_clause found r) (next_texts found r u)

-- the longest front in UTF-8 is in UTF-8
front_is_text : (text : List ℕ) (n : ℕ) → IsUtf8 (take (valid_len_up_to text n) text)
front_is_text text zero = IsUtf8-nil
front_is_text text (suc n) = go (is_utf8 (take (suc n) text)) refl (front_is_text text n)
  where
    go : (b : Bool) → is_utf8 (take (suc n) text) ≡ b → IsUtf8 (take (valid_len_up_to text n) text) → IsUtf8 (take (if b then suc n else valid_len_up_to text n) text)
    go true e rest = IsUtf8-from_is_utf8 (take (suc n) text) e
    go false e rest = rest

abbrev not_text : List ℕ → Fault
not_text text = record { left = length text - utf8_valid_len text; kind = fault.NotUtf8 }

-- a text with no fault of UTF-8 is in UTF-8
pub no_fault : (text : List ℕ) → not_utf8 text ≡ None → IsUtf8 text
unfolding not_utf8 utf8_valid_len
no_fault text e = go (nat_lt (utf8_valid_len text) (length text)) refl e
  where
    enough : nat_lt (utf8_valid_len text) (length text) ≡ false → length text ≤ utf8_valid_len text
    enough h = grind (arith, nat_tests)

    go : (b : Bool) → nat_lt (utf8_valid_len text) (length text) ≡ b → (if b then Some (not_text text) else None) ≡ None → IsUtf8 text
    go true f h = absurd (cc)
    go false f h =
        let same : utf8_valid_len text ≡ length text = (let l = enough f in let m = utf8_valid_len_le text in omega arith) in
        subst IsUtf8 (take-length text) (subst (λ n. IsUtf8 (take n text)) same (front_is_text text (length text)))

pub programs : ReadProgramsHaveTextNames
unfolding program
programs text cs e = go (not_utf8 text) refl e
  where
    go : (o : Option Fault) → not_utf8 text ≡ o → unless o (clauses_from (left (whole text)) [] (whole text)) ≡ Ok cs → All HasTextNames cs
    go (Some x) f is = absurd (cc)
    go None f is = subst AreRead is (clauses_texts (left (whole text)) [] (whole text) (All-nil HasTextNames) (no_fault text f))

-- ---- names and predicates

atom_over : (p : List ℕ → Bool) (q : Pred → Bool) (t : Tree ℕ) → HasNames is_utf8 t → IsAtomOver p q t → IsAtomOver is_utf8 q t
atom_over p q t h k = record { application = k.application; predicate = k.predicate; names = h }

atoms_over : (p : List ℕ → Bool) (q : Pred → Bool) (ts : List (Tree ℕ)) → All (HasNames is_utf8) ts → All (IsAtomOver p q) ts → All (IsAtomOver is_utf8 q) ts
atoms_over p q [] h k = All-nil (IsAtomOver is_utf8 q)
atoms_over p q (t ∷ ts) h k =
    All-cons (IsAtomOver is_utf8 q) t ts
    (atom_over p q t (All-head (HasNames is_utf8) t ts h) (All-head (IsAtomOver p q) t ts k))
    (atoms_over p q ts (All-tail (HasNames is_utf8) t ts h) (All-tail (IsAtomOver p q) t ts k))

pub over : TextNamesAreOver
over p q c h k = record {
  head = atom_over p q c.head (All-head (HasNames is_utf8) c.head c.atoms h.atoms) k.head;
  body = atoms_over p q c.atoms (All-tail (HasNames is_utf8) c.head c.atoms h.atoms) k.body;
}
