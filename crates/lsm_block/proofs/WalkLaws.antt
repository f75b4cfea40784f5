-- One walk over entries and restart offsets finds the first fault of a block.
use Rattle.std.proofs.Common.{◌≡◌, ℕ, zero, suc, ◌-◌, ◌<◌, ◌≤◌, Bool, true, false, cond, leb, ltb, eqb, List, [], ◌∷◌, ◌++◌, length, Option, Some, None, refl, sym, ap, ◌∙◌, subst, arith, inl, inr}
use Rattle.std.specs.Prelude.{◌&&◌, ◌||◌}
use Rattle.std.specs.List.{list_any, list_all}
use Rattle.std.proofs.lemmas.Bool.{and_parts, cases_lt, ne_eqb, eq-eqb, eqb-true, lt-ltb, le-ltb, ltb-true, ltb-false, lt-leb, le-leb}
use Rattle.lsm_codec.proofs.CallerLemmas.{IsBytes}
use Rattle.lsm_block.specs.declared.fault.BlockFault.TheVariants.{BadRestarts, BadEntry}
use Rattle.lsm_block.specs.Block.{start_at}
use Rattle.lsm_block.specs.Reading.{Piece, Scan, nothing, entry_at, scan, starts_of, is_judged, if_judged, may_follow, rises, restarts_fit, if_not, comes_after, disorder, entries_of, entry_fault, restart_fault, first_fault}
use Rattle.lsm_codec.specs.Keys.{InternalKey, is_internal, key_at}
use Rattle.lsm_block.specs.Held.{last_of, last_after}
use Rattle.lsm_block.specs.Walking.{begun, passed, if_none, fault_from, fault_at_stop, is_nothing, fault_at_end}
use Rattle.lsm_block.proofs.EntryLaws.{some_is, leaves}
use Rattle.lsm_block.proofs.KeyLaws.{last-key}
use Rattle.lsm_block.proofs.ScanLaws.{placed_at, scan-empty, scan-some, scan-none, either}

-- ---- the count of a scan

-- Any count that is long enough reads the same.
pub enough : (m n total : ℕ) (before text : List ℕ) → IsBytes text → length text ≤ m → length text ≤ n → scan m total before text ≡ scan n total before text
enough m n total before [] fits h k = scan-empty m total before ∙ sym (scan-empty n total before)
enough zero n total before (b ∷ bs) fits h k = absurd (omega (arith, h))
enough (suc m) zero total before (b ∷ bs) fits h k = absurd (omega (arith, k))
enough (suc m) (suc n) total before (b ∷ bs) fits h k =
    let text : List ℕ = b ∷ bs in
    elim (either (entry_at before text)) [
      | inl none ↦ scan-none m total before text (omega arith) none ∙ sym (scan-none n total before text (omega arith) none)
      | inr found ↦
          let p = found.0.0 in
          let after = found.0.1 in
          let l = leaves before text p after fits found.1 in
          scan-some m total before text p after (omega arith) found.1
          ∙ ap (λ (s : Scan). record { placed = placed_at (total - length text) p ∷ s.placed; stop = s.stop }) (enough m n total p.key after l.fits (omega (arith, l.shorter, h)) (omega (arith, l.shorter, k)))
          ∙ sym (scan-some n total before text p after (omega arith) found.1)
    ]

-- one entry of a text
pub scan-entry : (total : ℕ) (before text : List ℕ) (p : Piece) (after : List ℕ) → IsBytes text → entry_at before text ≡ Some (p, after)
    → scan (length text) total before text ≡ record { placed = placed_at (total - length text) p ∷ (scan (length after) total p.key after).placed; stop = (scan (length after) total p.key after).stop }
scan-entry total before text p after fits e =
    let l = leaves before text p after fits e in
    let k : length text ≡ suc (length text - 1) = omega (arith, l.shorter) in
    ap (λ (n : ℕ). scan n total before text) k
    ∙ scan-some (length text - 1) total before text p after (omega (arith, l.shorter)) e
    ∙ ap (λ (s : Scan). record { placed = placed_at (total - length text) p ∷ s.placed; stop = s.stop }) (enough (length text - 1) (length after) total p.key after l.fits (omega (arith, l.shorter)) (omega arith))

pub scan-stop : (total : ℕ) (before text : List ℕ) → 0 < length text → entry_at before text ≡ None → scan (length text) total before text ≡ nothing (Some (total - length text))
scan-stop total before text some e =
    let k : length text ≡ suc (length text - 1) = omega (arith, some) in
    ap (λ (n : ℕ). scan n total before text) k ∙ scan-none (length text - 1) total before text some e

-- ---- what is below a place

-- Below this offset nothing starts, and all is judged.
pub record From (least : ℕ) (s : Scan) : Type 0 where
  pub starts : (x : ℕ) → x < least → list_any (λ y. eqb y x) (starts_of s.placed) ≡ false
  pub judged : (x : ℕ) → x < least → is_judged s.stop x ≡ true

false_or : (a b : Bool) → a ≡ false → (a || b) ≡ b
false_or a b e = ap (λ (x : Bool). x || b) e

-- an offset that is not this start
other_start : (shared start x : ℕ) (others : List ℕ) → (start ≡ x → ⊥) → list_any (λ y. eqb y x) (start_at shared start ++ others) ≡ list_any (λ y. eqb y x) others
other_start zero start x others ne = false_or (eqb start x) (list_any (λ y. eqb y x) others) (ne_eqb start x ne)
other_start (suc shared) start x others ne = refl

pub all_from : (count total : ℕ) (before text : List ℕ) → IsBytes text → length text ≤ total → From (total - length text) (scan count total before text)
unfolding scan starts_of
all_from zero total before text fits le = record { starts = λ x h. refl; judged = λ x h. refl }
all_from (suc count) total before [] fits le = record { starts = λ x h. refl; judged = λ x h. refl }
all_from (suc count) total before (b ∷ bs) fits le =
    let text : List ℕ = b ∷ bs in
    let start = total - length text in
    elim (either (entry_at before text)) [
      | inl none ↦
          let stops : From start (nothing (Some start)) = record { starts = λ x h. refl; judged = λ x h. lt-ltb x start h } in
          subst (λ (s : Scan). From start s) (sym (scan-none count total before text (omega arith) none)) stops
      | inr found ↦
          let p = found.0.0 in
          let after = found.0.1 in
          let l = leaves before text p after fits found.1 in
          let f = all_from count total p.key after l.fits (omega (arith, l.shorter, le)) in
          let later = scan count total p.key after in
          let goes : From start (record { placed = placed_at start p ∷ later.placed; stop = later.stop }) = record {
            starts = λ x h. other_start p.shared start x (starts_of later.placed) (λ e. absurd (omega (arith, h, e))) ∙ f.starts x (omega (arith, h, l.shorter, le));
            judged = λ x h. f.judged x (omega (arith, h, l.shorter, le));
          } in
          subst (λ (s : Scan). From start s) (sym (scan-some count total before text p after (omega arith) found.1)) goes
    ]

-- ---- one entry, and the offsets

-- A start that is not above the offset before makes no difference.
no_matter : (start before : ℕ) (rs starts : List ℕ) (stop : Option ℕ) → ((x : ℕ) → x ≤ start → is_judged stop x ≡ true) → start ≤ before
    → rises stop (start ∷ starts) before rs ≡ rises stop starts before rs
unfolding rises
no_matter start before [] starts stop j h = refl
no_matter start before (r ∷ rs) starts stop j h = by_judged (is_judged stop r) refl (λ above. no_matter start r rs starts stop j above)
  where
    by_order : (b : Bool) → ltb before r ≡ b → (start ≤ r → rises stop (start ∷ starts) r rs ≡ rises stop starts r rs)
        → ((ltb before r && (eqb start r || list_any (λ s. eqb s r) starts)) && rises stop (start ∷ starts) r rs) ≡ ((ltb before r && list_any (λ s. eqb s r) starts) && rises stop starts r rs)
    by_order false k go = rw k refl
    by_order true k go =
        let above : before < r = ltb-true _ _ k in
        let other = ne_eqb start r (λ q. absurd (omega (arith, q, above, h))) in
        let later = go (omega (arith, above, h)) in
        rw (k, other, later) refl

    by_judged : (b : Bool) → is_judged stop r ≡ b → (start ≤ r → rises stop (start ∷ starts) r rs ≡ rises stop starts r rs)
        → (may_follow stop (start ∷ starts) before r && rises stop (start ∷ starts) r rs) ≡ (may_follow stop starts before r && rises stop starts r rs)
    by_judged false e go =
        let above : start ≤ r = elim (cases_lt r start) [ inl lt ↦ (let bad = sym (j r (omega (arith, lt))) ∙ e in absurd cc) | inr le ↦ le ] in
        let later = go above in
        rw (e, later) refl
    by_judged true e go = rw e (by_order (ltb before r) refl go)

pub restart_here : (start before shared r : ℕ) (rs starts : List ℕ) (stop : Option ℕ) → ((x : ℕ) → x ≤ start → is_judged stop x ≡ true) → shared ≡ 0 → r ≡ start → before < r
    → rises stop (start_at shared start ++ starts) before (r ∷ rs) ≡ rises stop starts r rs
unfolding rises
restart_here start before zero r rs starts stop j s e h =
    let yes = j r (omega (arith, e)) in
    let more = lt-ltb before r h in
    let same = eq-eqb start r (sym e) in
    let later = no_matter start r rs starts stop j (omega (arith, e)) in
    rw (yes, more, same, later) refl
restart_here start before (suc shared) r rs starts stop j s e h = absurd (omega (arith, s))

-- An offset that is neither beyond the start nor a restart there is refused.
and_false : (a b : Bool) → b ≡ false → (a && b) ≡ false
and_false true b e = e
and_false false b e = refl

pub no_restart : (start before shared r : ℕ) (rs starts : List ℕ) (stop : Option ℕ) → ((x : ℕ) → x ≤ start → is_judged stop x ≡ true) → ((x : ℕ) → x ≤ start → list_any (λ y. eqb y x) starts ≡ false)
    → r ≤ start → ((r ≡ start) → (shared ≡ 0) → before < r → ⊥) → rises stop (start_at shared start ++ starts) before (r ∷ rs) ≡ false
unfolding rises
no_restart start before shared r rs starts stop j none le not =
    let yes = j r le in
    let refused : (ltb before r && list_any (λ y. eqb y r) (start_at shared start ++ starts)) ≡ false = elim (cases_lt before r) [
      | inr low ↦ (let no = le-ltb _ _ low in ap (λ (b : Bool). b && list_any (λ y. eqb y r) (start_at shared start ++ starts)) no)
      | inl high ↦ and_false (ltb before r) _ (absent shared (λ e z. not e z high))
    ] in
    rw (yes, refused) refl
  where
    absent : (n : ℕ) → ((r ≡ start) → (n ≡ 0) → ⊥) → list_any (λ y. eqb y r) (start_at n start ++ starts) ≡ false
    absent zero other = other_start zero start r starts (λ e. other (sym e) refl) ∙ none r le
    absent (suc n) other = none r le

pub beyond : (start before shared r : ℕ) (rs starts : List ℕ) (stop : Option ℕ) → ((x : ℕ) → x ≤ start → is_judged stop x ≡ true) → start < r
    → rises stop (start_at shared start ++ starts) before (r ∷ rs) ≡ rises stop starts before (r ∷ rs)
unfolding rises
beyond start before shared r rs starts stop j h =
    let same = other_start shared start r starts (λ e. absurd (omega (arith, e, h))) in
    let later = skipped shared in
    rw (same, later) refl
  where
    skipped : (n : ℕ) → rises stop (start_at n start ++ starts) r rs ≡ rises stop starts r rs
    skipped zero = no_matter start r rs starts stop j (omega (arith, h))
    skipped (suc n) = refl

-- What an entry leaves of the offsets rises where all did.
pub pass_good : (start before shared : ℕ) (rs starts : List ℕ) (stop : Option ℕ) (b : ℕ) (xs : List ℕ) → ((x : ℕ) → x ≤ start → is_judged stop x ≡ true)
    → passed before rs start shared ≡ Some (b, xs) → rises stop (start_at shared start ++ starts) before rs ≡ rises stop starts b xs
unfolding passed rises
pass_good start before shared [] starts stop b xs j e =
    let same : (before, []) ≡ (b, xs) = some_is (before, []) (b, xs) e in
    ap (λ (q : ℕ × List ℕ). rises stop starts q.0 q.1) same
pass_good start before shared (r ∷ rs) starts stop b xs j e = by_place (ltb start r) refl
  where
    by_restart : (t : Bool) → ((eqb r start) && (eqb shared 0) && ltb before r) ≡ t → cond {A = Option (ℕ × List ℕ)} t (Some (r, rs)) None ≡ Some (b, xs) → rises stop (start_at shared start ++ starts) before (r ∷ rs) ≡ rises stop starts b xs
    by_restart false t bad = absurd cc
    by_restart true t found =
        let p = and_parts ((eqb r start) && (eqb shared 0)) (ltb before r) t in
        let q = and_parts (eqb r start) (eqb shared 0) p.0 in
        restart_here start before shared r rs starts stop j (eqb-true _ _ q.1) (eqb-true _ _ q.0) (ltb-true _ _ p.1)
        ∙ ap (λ (q : ℕ × List ℕ). rises stop starts q.0 q.1) (some_is (r, rs) (b, xs) found)

    by_place : (t : Bool) → ltb start r ≡ t → rises stop (start_at shared start ++ starts) before (r ∷ rs) ≡ rises stop starts b xs
    by_place true t =
        let found : Some (before, r ∷ rs) ≡ Some (b, xs) = rw t at e in
        beyond start before shared r rs starts stop j (ltb-true _ _ t) ∙ ap (λ (q : ℕ × List ℕ). rises stop starts q.0 q.1) (some_is (before, r ∷ rs) (b, xs) found)
    by_place false t =
        let found : cond {A = Option (ℕ × List ℕ)} ((eqb r start) && (eqb shared 0) && ltb before r) (Some (r, rs)) None ≡ Some (b, xs) = rw t at e in
        by_restart ((eqb r start) && (eqb shared 0) && ltb before r) refl found

pub pass_bad : (start before shared : ℕ) (rs starts : List ℕ) (stop : Option ℕ) → ((x : ℕ) → x ≤ start → is_judged stop x ≡ true) → ((x : ℕ) → x ≤ start → list_any (λ y. eqb y x) starts ≡ false)
    → passed before rs start shared ≡ None → rises stop (start_at shared start ++ starts) before rs ≡ false
unfolding passed
pass_bad start before shared [] starts stop j none e = absurd cc
pass_bad start before shared (r ∷ rs) starts stop j none e = by_place (ltb start r) refl
  where
    by_restart : (t : Bool) → ((eqb r start) && (eqb shared 0) && ltb before r) ≡ t → cond {A = Option (ℕ × List ℕ)} t (Some (r, rs)) None ≡ None → r ≤ start → rises stop (start_at shared start ++ starts) before (r ∷ rs) ≡ false
    by_restart true t bad le = absurd cc
    by_restart false t found le = no_restart start before shared r rs starts stop j none le (λ same zero_is high.
        let a = eq-eqb r start same in
        let b = eq-eqb shared 0 zero_is in
        let c = lt-ltb before r high in
        let bad : true ≡ false = rw (a, b, c) at t in
        absurd cc)

    by_place : (t : Bool) → ltb start r ≡ t → rises stop (start_at shared start ++ starts) before (r ∷ rs) ≡ false
    by_place true t = let bad : Some (before, r ∷ rs) ≡ None = rw t at e in absurd cc
    by_place false t =
        let found : cond {A = Option (ℕ × List ℕ)} ((eqb r start) && (eqb shared 0) && ltb before r) (Some (r, rs)) None ≡ None = rw t at e in
        by_restart ((eqb r start) && (eqb shared 0) && ltb before r) refl found (ltb-false _ _ t)

-- ---- the walk

noted : (out : Option ℕ) (b : Bool) (start : ℕ) (later : Option ℕ) → if_none (if_none out (if_not b start None)) later ≡ if_none out (if_not b start later)
noted None true start later = refl
noted None false start later = refl
noted (Some o) b start later = refl

pub walk_on : (out : Option ℕ) (before : ℕ) (rs key rest : List ℕ) (total : ℕ) (p : Piece) (after : List ℕ) (b : ℕ) (xs : List ℕ) → IsBytes rest → length rest ≤ total
    → entry_at key rest ≡ Some (p, after) → passed before rs (total - length rest) p.shared ≡ Some (b, xs)
    → fault_from (if_none out (if_not (comes_after key p.key) (total - length rest) None)) b xs p.key (scan (length after) total p.key after) ≡ fault_from out before rs key (scan (length rest) total key rest)
unfolding starts_of disorder
walk_on out before rs key rest total p after b xs fits le e pass =
    let l = leaves key rest p after fits e in
    let start = total - length rest in
    let later = scan (length after) total p.key after in
    let f = all_from (length after) total p.key after l.fits (omega (arith, l.shorter, le)) in
    let good = pass_good start before p.shared rs (starts_of later.placed) later.stop b xs (λ x h. f.judged x (omega (arith, h, l.shorter, le))) pass in
    sym (ap (fault_from out before rs key) (scan-entry total key rest p after fits e)
    ∙ ap (λ (t : Bool). restart_fault t (entry_fault later.stop (if_none out (if_not (comes_after key p.key) start (disorder p.key later.placed))))) good
    ∙ ap (λ (d : Option ℕ). restart_fault (rises later.stop (starts_of later.placed) b xs) (entry_fault later.stop d)) (sym (noted out (comes_after key p.key) start (disorder p.key later.placed))))

-- the same, with the key, the number and the note that the code has
pub walk_moves : (out : Option ℕ) (before : ℕ) (rs key rest : List ℕ) (total : ℕ) (p : Piece) (after : List ℕ) (b : ℕ) (xs : List ℕ) (shared : ℕ) (next : List ℕ) (mark : Option ℕ)
    → IsBytes rest → length rest ≤ total → entry_at key rest ≡ Some (p, after) → p.shared ≡ shared → p.key ≡ next → Some (b, xs) ≡ passed before rs (total - length rest) shared
    → mark ≡ if_none out (if_not (comes_after key next) (total - length rest) None)
    → fault_from mark b xs next (scan (length after) total next after) ≡ fault_from out before rs key (scan (length rest) total key rest)
walk_moves out before rs key rest total p after b xs shared next mark fits le e s k pass n =
    let start = total - length rest in
    let passes : passed before rs start p.shared ≡ Some (b, xs) = ap (passed before rs start) s ∙ sym pass in
    ap (λ (o : Option ℕ). fault_from o b xs next (scan (length after) total next after)) n
    ∙ ap (λ (q : List ℕ). fault_from (if_none out (if_not (comes_after key q) start None)) b xs q (scan (length after) total q after)) (sym k)
    ∙ walk_on out before rs key rest total p after b xs fits le e passes

pub walk_bad : (out : Option ℕ) (before : ℕ) (rs key rest : List ℕ) (total : ℕ) (p : Piece) (after : List ℕ) → IsBytes rest → length rest ≤ total
    → entry_at key rest ≡ Some (p, after) → passed before rs (total - length rest) p.shared ≡ None
    → Some BadRestarts ≡ fault_from out before rs key (scan (length rest) total key rest)
unfolding starts_of disorder
walk_bad out before rs key rest total p after fits le e pass =
    let l = leaves key rest p after fits e in
    let start = total - length rest in
    let later = scan (length after) total p.key after in
    let f = all_from (length after) total p.key after l.fits (omega (arith, l.shorter, le)) in
    let bad = pass_bad start before p.shared rs (starts_of later.placed) later.stop (λ x h. f.judged x (omega (arith, h, l.shorter, le))) (λ x h. f.starts x (omega (arith, h, l.shorter, le))) pass in
    sym (ap (fault_from out before rs key) (scan-entry total key rest p after fits e)
    ∙ ap (λ (t : Bool). restart_fault t (entry_fault later.stop (if_none out (if_not (comes_after key p.key) start (disorder p.key later.placed))))) bad)

stop_rises : (start before : ℕ) (rs : List ℕ) → rises (Some start) [] before rs ≡ list_all (λ o. leb start o) rs
unfolding rises
stop_rises start before [] = refl
stop_rises start before (r ∷ rs) =
    elim (cases_lt r start) [
      | inl lt ↦
          let yes = lt-ltb _ _ lt in
          let no = lt-leb _ _ lt in
          let none = and_false (ltb before r) false refl in
          rw (yes, no, none) refl
      | inr le ↦
          let no = le-ltb _ _ le in
          let yes = le-leb _ _ le in
          rw (no, yes) (stop_rises start r rs)
    ]

pub walk_stop : (out : Option ℕ) (before : ℕ) (rs key rest : List ℕ) (total : ℕ) → 0 < length rest → entry_at key rest ≡ None
    → fault_at_stop (total - length rest) rs ≡ fault_from out before rs key (scan (length rest) total key rest)
unfolding starts_of
walk_stop out before rs key rest total some e =
    sym (ap (fault_from out before rs key) (scan-stop total key rest some e)
    ∙ ap (λ (t : Bool). restart_fault t (Some (BadEntry (total - length rest)))) (stop_rises (total - length rest) before rs))

end_rises : (before : ℕ) (rs : List ℕ) → rises None [] before rs ≡ is_nothing rs
unfolding rises
end_rises before [] = refl
end_rises before (r ∷ rs) = let none = and_false (ltb before r) false refl in rw none refl

if_none-none : (out : Option ℕ) → if_none out None ≡ out
if_none-none None = refl
if_none-none (Some o) = refl

pub walk_end : (out : Option ℕ) (before : ℕ) (rs key rest : List ℕ) (total : ℕ) → length rest ≡ 0
    → fault_at_end out rs ≡ fault_from out before rs key (scan (length rest) total key rest)
unfolding starts_of disorder
walk_end out before rs key [] total e =
    sym (ap (fault_from out before rs key) (scan-empty 0 total key)
    ∙ ap (λ (t : Bool). restart_fault t (entry_fault None (if_none out None))) (end_rises before rs)
    ∙ ap (λ (d : Option ℕ). restart_fault (is_nothing rs) (entry_fault None d)) (if_none-none out))
walk_end out before rs key (b ∷ bs) total e = absurd (omega (arith, e))

-- ---- the last key

pub last_moves : (key rest : List ℕ) (total : ℕ) (p : Piece) (after next : List ℕ) → IsBytes rest → entry_at key rest ≡ Some (p, after) → p.key ≡ next → is_internal next ≡ true
    → last_after (last_of next) (entries_of (scan (length after) total next after).placed) ≡ last_after (last_of key) (entries_of (scan (length rest) total key rest).placed)
last_moves key rest total p after next fits e k internal =
    ap (λ (o : Option InternalKey). last_after o (entries_of (scan (length after) total next after).placed)) (last-key next internal)
    ∙ ap (λ (q : List ℕ). last_after (Some (key_at q)) (entries_of (scan (length after) total q after).placed)) (sym k)
    ∙ sym (ap (λ (s : Scan). last_after (last_of key) (entries_of s.placed)) (scan-entry total key rest p after fits e))

pub last_ends : (key rest : List ℕ) (total : ℕ) → length rest ≡ 0 → last_of key ≡ last_after (last_of key) (entries_of (scan (length rest) total key rest).placed)
last_ends key [] total e = sym (ap (λ (s : Scan). last_after (last_of key) (entries_of s.placed)) (scan-empty 0 total key))
last_ends key (b ∷ bs) total e = absurd (omega (arith, e))

-- ---- the first offset

zero_fits : (b : Bool) → if_judged b true ≡ true
zero_fits true = refl
zero_fits false = refl

never_above : (n : ℕ) → ltb n n ≡ false
never_above n = le-ltb n n (omega arith)

pub first_follows : (stop : Option ℕ) (starts rs : List ℕ) → 0 < length rs → restarts_fit stop starts rs ≡ rises stop starts (begun rs).0 (begun rs).1
unfolding rises
first_follows stop starts [] h = absurd (omega arith)
first_follows stop starts (zero ∷ rs) h = let e = zero_fits (is_judged stop 0) in rw e refl
first_follows stop starts (suc r ∷ rs) h =
    let e = never_above (suc r) in
    let z = ne_eqb (suc r) 0 (λ q. absurd (omega (arith, q))) in
    rw (e, z) refl

pub walk_begins : (s : Scan) (rs : List ℕ) → 0 < length rs → fault_from None (begun rs).0 (begun rs).1 [] s ≡ first_fault s rs
walk_begins s rs h = ap (λ (t : Bool). restart_fault t (entry_fault s.stop (disorder [] s.placed))) (sym (first_follows s.stop (starts_of s.placed) rs h))
