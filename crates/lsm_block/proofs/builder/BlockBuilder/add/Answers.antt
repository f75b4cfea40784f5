-- What a builder has after an entry more.
use Rattle.std.proofs.Common.{◌≡◌, ℕ, ◌+◌, ◌^◌, ◌<◌, ◌≤◌, List, [], ◌∷◌, ◌++◌, length, drop, sym, ap, ◌∙◌, subst, arith, inl, inr}
use Rattle.std.proofs.lemmas.Bool.{cases_lt}
use Rattle.lsm_codec.proofs.CallerLemmas.{length-key_bytes}
use Rattle.lsm_codec.specs.KeyRef.{key_of}
use Rattle.lsm_codec.specs.Entries.{Entry}
use Rattle.lsm_block.specs.Block.{Ascends, entry_of, key_text}
use Rattle.lsm_block.specs.Building.{Building, Built, block_bytes, entries_in, shared_at}
use Rattle.lsm_block.proofs.KeyLaws.{length-unshared}
use Rattle.lsm_block.proofs.BuildLaws.{shares_at, share_small, few, length-with, grows, length-built, built_itself, entries_of-built}
use Rattle.lsm_block.proofs.builder.BlockBuilder.add.Goals as goal

pub overflow_sub-unshared : goal.overflow_sub-unshared
overflow_sub-unshared c =
    let s = c.self.inside in
    let e = entry_of (key_of c.args.key.now) c.args.value.now in
    let shares = rw (← c.deref.ensures.value, ← c.shared_with-shared.ensures) at ((shares_at s.interval s.count s.last.items (key_text e)).in_key) in
    omega (arith, shares, length-key_bytes (key_of c.args.key.now))

pub grown_size-size-requires-clause-shared : goal.grown_size-size-requires-clause-shared
grown_size-size-requires-clause-shared c =
    let s = c.self.inside in
    let e = entry_of (key_of c.args.key.now) c.args.value.now in
    rw (c.shared_with-shared.ensures, c.deref.ensures.value) (share_small s.interval s.count (entries_in s.text.items) s.text.items s.offsets.items s.last.items (key_text e) c.self.invariant)

by_size : (n m : ℕ) → (2 ^ 32 ≤ n → 2 ^ 32 ≤ m) → m < 2 ^ 32 → n < 2 ^ 32
by_size n m over small = elim (cases_lt n (2 ^ 32)) [ inl lt ↦ lt | inr le ↦ absurd (omega (arith, over le, small)) ]

by_large : (n m : ℕ) → (n < 2 ^ 32 → m ≡ n) → 2 ^ 32 ≤ m → 2 ^ 32 ≤ n
by_large n m exact large = elim (cases_lt n (2 ^ 32)) [ inl lt ↦ absurd (omega (arith, exact lt, large, lt)) | inr le ↦ le ]

pub returns-then-size-clause-large : goal.returns-then-size-clause-large
returns-then-size-clause-large c same =
    let s = c.self.inside in
    let e = entry_of (key_of c.args.key.now) c.args.value.now in
    let with = length-with s.interval s.count (entries_in s.text.items) s.text.items s.offsets.items s.last.items e _ _ _ _ _ c.self.invariant
    (c.len.ensures ∙ s.text.ok.0) (c.len-2.ensures ∙ s.offsets.ok.0) (c.shared_with-shared.ensures ∙ ap (λ (xs : List ℕ). shared_at s.interval s.count xs (key_text e)) c.deref.ensures.value)
    c.is_later-later.ensures (length-unshared c.shared_with-shared.result (key_of c.args.key.now)) in
    subst (λ (b : Building). 2 ^ 32 ≤ length (block_bytes b.interval (b.entries ++ e ∷ []))) c.self.view_is
    (rw with (by_large _ _ c.grown_size-size.ensures.exact (omega (arith, c.if-size.true))))

pub split_at-requires : goal.split_at-requires
split_at-requires c =
    let s = c.self.inside in
    let e = entry_of (key_of c.args.key.now) c.args.value.now in
    let spare : c.push_key.new.out.items ≡ key_text e = rw c.clear.ensures.items at c.in_ok-push_key.ensures.ok in
    rw (c.deref-2.ensures.value, spare, c.shared_with-shared.ensures, c.deref.ensures.value) (shares_at s.interval s.count s.last.items (key_text e)).in_key

pub overflow_cast-shared : goal.overflow_cast-shared
overflow_cast-shared c =
    let s = c.self.inside in
    let e = entry_of (key_of c.args.key.now) c.args.value.now in
    let small = share_small s.interval s.count (entries_in s.text.items) s.text.items s.offsets.items s.last.items (key_text e) c.self.invariant in
    let fits = rw (sym c.deref.ensures.value, sym c.shared_with-shared.ensures) at small in
    omega (arith, fits)

pub overflow_add-self : goal.overflow_add-self
overflow_add-self c =
    let s = c.self.inside in
    omega (arith, few s.interval s.count (entries_in s.text.items) s.text.items s.offsets.items s.last.items c.self.invariant)

pub invariant_of-self-2 : goal.invariant_of-self-2
invariant_of-self-2 c =
    let s = c.self.inside in
    let e = entry_of (key_of c.args.key.now) c.args.value.now in
    let spare : c.push_key.new.out.items ≡ key_text e = rw c.clear.ensures.items at c.in_ok-push_key.ensures.ok in
    let built : Built s.interval (entries_in s.text.items ++ e ∷ []) c.push_entry.new.text.items c.push_entry.new.offsets.items c.swap.new.x.items (s.count + 1) =
    (grows s.interval s.count (entries_in s.text.items) s.text.items s.offsets.items s.last.items e _ _ _ _ _ _ c.push_entry.new.text.items c.push_entry.new.offsets.items c.swap.new.x.items
    c.self.invariant (c.len.ensures ∙ s.text.ok.0) (c.len-2.ensures ∙ s.offsets.ok.0) (c.shared_with-shared.ensures ∙ ap (λ (xs : List ℕ). shared_at s.interval s.count xs (key_text e)) c.deref.ensures.value)
    c.is_later-later.ensures (c.split_at.ensures.back ∙ ap (λ (xs : List ℕ). drop c.shared_with-shared.result xs) (c.deref-2.ensures.value ∙ spare)) (length-unshared c.shared_with-shared.result (key_of c.args.key.now))
    (by_size _ _ c.grown_size-size.ensures.over (omega (arith, c.if-size.false))) c.args.key.now.seq_fits
    (subst (λ (b : Building). Ascends (b.entries ++ e ∷ [])) (sym c.self.view_is) c.requires.ascends)
    c.in_ok-push_entry.ensures.ok c.in_ok-push_entry.ensures.offsets (rw c.swap.ensures.x_after spare)) in
    built_itself s.interval (s.count + 1) (entries_in s.text.items ++ e ∷ []) c.push_entry.new.text.items c.push_entry.new.offsets.items c.swap.new.x.items built

pub returns-clause-ok : goal.returns-clause-ok
returns-clause-ok c =
    let s = c.self.inside in
    let e = entry_of (key_of c.args.key.now) c.args.value.now in
    let spare : c.push_key.new.out.items ≡ key_text e = rw c.clear.ensures.items at c.in_ok-push_key.ensures.ok in
    let built : Built s.interval (entries_in s.text.items ++ e ∷ []) c.push_entry.new.text.items c.push_entry.new.offsets.items c.swap.new.x.items (s.count + 1) =
    (grows s.interval s.count (entries_in s.text.items) s.text.items s.offsets.items s.last.items e _ _ _ _ _ _ c.push_entry.new.text.items c.push_entry.new.offsets.items c.swap.new.x.items
    c.self.invariant (c.len.ensures ∙ s.text.ok.0) (c.len-2.ensures ∙ s.offsets.ok.0) (c.shared_with-shared.ensures ∙ ap (λ (xs : List ℕ). shared_at s.interval s.count xs (key_text e)) c.deref.ensures.value)
    c.is_later-later.ensures (c.split_at.ensures.back ∙ ap (λ (xs : List ℕ). drop c.shared_with-shared.result xs) (c.deref-2.ensures.value ∙ spare)) (length-unshared c.shared_with-shared.result (key_of c.args.key.now))
    (by_size _ _ c.grown_size-size.ensures.over (omega (arith, c.if-size.false))) c.args.key.now.seq_fits
    (subst (λ (b : Building). Ascends (b.entries ++ e ∷ [])) (sym c.self.view_is) c.requires.ascends)
    c.in_ok-push_entry.ensures.ok c.in_ok-push_entry.ensures.offsets (rw c.swap.ensures.x_after spare)) in
    let same = entries_of-built s.interval (s.count + 1) (entries_in s.text.items ++ e ∷ []) c.push_entry.new.text.items c.push_entry.new.offsets.items c.swap.new.x.items built in
    ap (λ (es : List Entry). record { interval = s.interval; entries = es }) same
    ∙ ap (λ (b : Building). record { interval = b.interval; entries = b.entries ++ e ∷ [] }) c.self.view_is

pub returns-clause-fits : goal.returns-clause-fits
returns-clause-fits c =
    let s = c.self.inside in
    let e = entry_of (key_of c.args.key.now) c.args.value.now in
    let spare : c.push_key.new.out.items ≡ key_text e = rw c.clear.ensures.items at c.in_ok-push_key.ensures.ok in
    let built : Built s.interval (entries_in s.text.items ++ e ∷ []) c.push_entry.new.text.items c.push_entry.new.offsets.items c.swap.new.x.items (s.count + 1) =
    (grows s.interval s.count (entries_in s.text.items) s.text.items s.offsets.items s.last.items e _ _ _ _ _ _ c.push_entry.new.text.items c.push_entry.new.offsets.items c.swap.new.x.items
    c.self.invariant (c.len.ensures ∙ s.text.ok.0) (c.len-2.ensures ∙ s.offsets.ok.0) (c.shared_with-shared.ensures ∙ ap (λ (xs : List ℕ). shared_at s.interval s.count xs (key_text e)) c.deref.ensures.value)
    c.is_later-later.ensures (c.split_at.ensures.back ∙ ap (λ (xs : List ℕ). drop c.shared_with-shared.result xs) (c.deref-2.ensures.value ∙ spare)) (length-unshared c.shared_with-shared.result (key_of c.args.key.now))
    (by_size _ _ c.grown_size-size.ensures.over (omega (arith, c.if-size.false))) c.args.key.now.seq_fits
    (subst (λ (b : Building). Ascends (b.entries ++ e ∷ [])) (sym c.self.view_is) c.requires.ascends)
    c.in_ok-push_entry.ensures.ok c.in_ok-push_entry.ensures.offsets (rw c.swap.ensures.x_after spare)) in
    let itself = built_itself s.interval (s.count + 1) (entries_in s.text.items ++ e ∷ []) c.push_entry.new.text.items c.push_entry.new.offsets.items c.swap.new.x.items built in
    omega (arith, itself.small, length-built s.interval (s.count + 1) (entries_in c.push_entry.new.text.items) c.push_entry.new.text.items c.push_entry.new.offsets.items c.swap.new.x.items itself)

pub returns-in_err-push_key-clause-over : goal.returns-in_err-push_key-clause-over
returns-in_err-push_key-clause-over c h =
    let s = c.self.inside in
    let e = entry_of (key_of c.args.key.now) c.args.value.now in
    let with = length-with s.interval s.count (entries_in s.text.items) s.text.items s.offsets.items s.last.items e _ _ _ _ _ c.self.invariant
    (c.len.ensures ∙ s.text.ok.0) (c.len-2.ensures ∙ s.offsets.ok.0) (c.shared_with-shared.ensures ∙ ap (λ (xs : List ℕ). shared_at s.interval s.count xs (key_text e)) c.deref.ensures.value)
    c.is_later-later.ensures (length-unshared c.shared_with-shared.result (key_of c.args.key.now)) in
    let small = by_size _ _ c.grown_size-size.ensures.over (omega (arith, c.if-size.false)) in
    let fits : length (block_bytes s.interval (entries_in s.text.items ++ e ∷ [])) < 2 ^ 32 = rw with small in
    let below = subst (λ (b : Building). length (block_bytes b.interval (b.entries ++ e ∷ [])) < 2 ^ 32) c.self.view_is fits in
    absurd (omega (arith, h, below))

pub returns-in_err-push_entry-clause-over : goal.returns-in_err-push_entry-clause-over
returns-in_err-push_entry-clause-over c h =
    let s = c.self.inside in
    let e = entry_of (key_of c.args.key.now) c.args.value.now in
    let with = length-with s.interval s.count (entries_in s.text.items) s.text.items s.offsets.items s.last.items e _ _ _ _ _ c.self.invariant
    (c.len.ensures ∙ s.text.ok.0) (c.len-2.ensures ∙ s.offsets.ok.0) (c.shared_with-shared.ensures ∙ ap (λ (xs : List ℕ). shared_at s.interval s.count xs (key_text e)) c.deref.ensures.value)
    c.is_later-later.ensures (length-unshared c.shared_with-shared.result (key_of c.args.key.now)) in
    let small = by_size _ _ c.grown_size-size.ensures.over (omega (arith, c.if-size.false)) in
    let fits : length (block_bytes s.interval (entries_in s.text.items ++ e ∷ [])) < 2 ^ 32 = rw with small in
    let below = subst (λ (b : Building). length (block_bytes b.interval (b.entries ++ e ∷ [])) < 2 ^ 32) c.self.view_is fits in
    absurd (omega (arith, h, below))

pub returns-clause-over : goal.returns-clause-over
returns-clause-over c h =
    let s = c.self.inside in
    let e = entry_of (key_of c.args.key.now) c.args.value.now in
    let with = length-with s.interval s.count (entries_in s.text.items) s.text.items s.offsets.items s.last.items e _ _ _ _ _ c.self.invariant
    (c.len.ensures ∙ s.text.ok.0) (c.len-2.ensures ∙ s.offsets.ok.0) (c.shared_with-shared.ensures ∙ ap (λ (xs : List ℕ). shared_at s.interval s.count xs (key_text e)) c.deref.ensures.value)
    c.is_later-later.ensures (length-unshared c.shared_with-shared.result (key_of c.args.key.now)) in
    let small = by_size _ _ c.grown_size-size.ensures.over (omega (arith, c.if-size.false)) in
    let fits : length (block_bytes s.interval (entries_in s.text.items ++ e ∷ [])) < 2 ^ 32 = rw with small in
    let below = subst (λ (b : Building). length (block_bytes b.interval (b.entries ++ e ∷ [])) < 2 ^ 32) c.self.view_is fits in
    absurd (omega (arith, h, below))
