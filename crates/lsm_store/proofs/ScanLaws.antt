-- Scans from a user key on.
use Rattle.std.proofs.Common.{◌≡◌, ℕ, Bool, true, false, cond, List, [], ◌∷◌, Option, Some, None, refl, sym, ap, ◌∙◌}
use Rattle.std.specs.Prelude.{nat_le, IfOk, Result, Ok, Err}
use Rattle.std.specs.List.{filter}
use Rattle.std.specs.Str.{bytes_eq}
use Rattle.std.proofs.lemmas.Bool.{and_parts}
use Rattle.lsm_codec.specs.Keys.{UserKey, user_le}
use Rattle.lsm_codec.specs.Entries.{Entry, answer, first_of_two, is_allowed, newest, value_in}
use Rattle.lsm_codec.proofs.CallerLemmas.{key_from_test}
use Rattle.lsm_model.specs.Files.{all_entries}
use Rattle.lsm_model.specs.Scanning.{IsScan, Pair}
use Rattle.lsm_iterators.specs.Seeking.{at_or_past}
use Rattle.lsm_version.specs.Versions.{files}
use Rattle.lsm_store.specs.Readers.{IsPromised, KnowsAll, Learnt}

user_is : (k : UserKey) (s : ℕ) (e : Entry) → is_allowed k s e ≡ true → e.user ≡ k
user_is k s e h = key_from_test e.user k (and_parts (bytes_eq e.user k) (nat_le e.seq s) h).0

-- one entry more, of a user key that is shown or not, and which the read may see or not
one_more : (p : UserKey → Bool) (k : UserKey) (s : ℕ) (e : Entry) (fs es : List Entry) → newest k s fs ≡ cond (p k) (newest k s es) None
    → (shown allowed : Bool) → p e.user ≡ shown → is_allowed k s e ≡ allowed → newest k s (cond shown (e ∷ fs) fs) ≡ cond (p k) (newest k s (e ∷ es)) None
one_more p k s e fs es before true true here may =
    let one : p k ≡ true = sym (ap p (user_is k s e may)) ∙ here in
    let was : newest k s fs ≡ newest k s es = before ∙ ap (λ (b : Bool). cond b (newest k s es) None) one in
    rw (may, one) (ap (λ o. Some (first_of_two e o)) was)
one_more p k s e fs es before true false here may = rw may before
one_more p k s e fs es before false true here may =
    let none : p k ≡ false = sym (ap p (user_is k s e may)) ∙ here in
    before ∙ ap (λ (b : Bool). cond b (newest k s es) None) none ∙ ap (λ (b : Bool). cond b (newest k s (e ∷ es)) None) (sym none)
one_more p k s e fs es before false false here may = rw may before

same_twice : (b : Bool) (o : Option Entry) → o ≡ cond b o o
same_twice true o = refl
same_twice false o = refl

-- of the entries whose user keys are shown a read finds what it finds of all, where its own key is shown
newest_among : (p : UserKey → Bool) (k : UserKey) (s : ℕ) (es : List Entry) → newest k s (filter (λ (e : Entry). p e.user) es) ≡ cond (p k) (newest k s es) None
newest_among p k s [] = same_twice (p k) None
newest_among p k s (e ∷ es) = one_more p k s e (filter (λ (f : Entry). p f.user) es) es (newest_among p k s es) (p e.user) (is_allowed k s e) refl refl

value_among : (b : Bool) (o : Option Entry) → value_in (cond b o None) ≡ cond b (value_in o) None
value_among true o = refl
value_among false o = refl

answer_among : (p : UserKey → Bool) (k : UserKey) (s : ℕ) (es : List Entry) → answer (filter (λ (e : Entry). p e.user) es) k s ≡ cond (p k) (answer es k s) None
answer_among p k s es = ap value_in (newest_among p k s es) ∙ value_among (p k) (newest k s es)

-- where all answers are the same, a scan from a user key on shows the same
same_scan : (from : UserKey) (s : ℕ) (es hs : List Entry) (ps : List Pair) → ((k : UserKey) → answer es k s ≡ answer hs k s)
    → IsScan s (at_or_past from es) ps → IsScan s (at_or_past from hs) ps
same_scan from s es hs ps same scan = record {
  right = λ k v h. sym (alike k) ∙ scan.right k v h;
  whole = λ k v h. scan.whole k v (alike k ∙ h);
  ascending = scan.ascending;
}
  where
    alike : (k : UserKey) → answer (at_or_past from es) k s ≡ answer (at_or_past from hs) k s
    alike k = answer_among (user_le from) k s es ∙ ap (λ o. cond (user_le from k) o None) (same k) ∙ sym (answer_among (user_le from) k s hs)

-- what is shown of a version at a promised sequence is what all that had come in shows
pub past_of_all : (v : Learnt) (from : UserKey) (seq : ℕ) (ps : List Pair) → KnowsAll v → IsPromised v seq
    → IsScan seq (at_or_past from (all_entries (files v.version))) ps → IsScan seq (at_or_past from v.history) ps
past_of_all v from seq ps all promised scan =
    same_scan from seq (all_entries (files v.version)) v.history ps (λ k. all.reads k seq promised) scan

-- the same of the answer of a call
pub past_shown : {W E : Type 0} (left : W → List Pair) (r : Result W E) (v : Learnt) (from : UserKey) (seq : ℕ) → KnowsAll v → IsPromised v seq
    → IfOk r (λ w. IsScan seq (at_or_past from (all_entries (files v.version))) (left w)) → IfOk r (λ w. IsScan seq (at_or_past from v.history) (left w))
past_shown left (Ok w) v from seq all promised scan = past_of_all v from seq (left w) all promised scan
past_shown left (Err e) v from seq all promised scan = tt
