use Rattle.std.proofs.Common.{◌≡◌, ℕ, ◌^◌, ◌<◌, ◌≤◌, List, [], ◌∷◌, ◌++◌, length, ap, ◌∙◌, subst, arith}
use Rattle.lsm_codec.proofs.CallerLemmas.{length-key_bytes}
use Rattle.lsm_codec.specs.KeyRef.{key_of}
use Rattle.lsm_block.specs.Block.{entry_of, key_text}
use Rattle.lsm_block.specs.Building.{Building, block_bytes, entries_in, shared_at}
use Rattle.lsm_block.proofs.KeyLaws.{length-unshared}
use Rattle.lsm_block.proofs.BuildLaws.{shares_at, share_small, length-with}
use Rattle.lsm_block.proofs.builder.BlockBuilder.size_with.Goals as goal

pub overflow_sub-unshared : goal.overflow_sub-unshared
overflow_sub-unshared c =
    let s = c.self.inside in
    let e = entry_of (key_of c.args.key.now) c.args.value.now in
    let shares = rw (← c.deref.ensures.value, ← c.shared_with-shared.ensures) at ((shares_at s.interval s.count s.last.items (key_text e)).in_key) in
    omega (arith, shares, length-key_bytes (key_of c.args.key.now))

pub grown_size-requires-clause-shared : goal.grown_size-requires-clause-shared
grown_size-requires-clause-shared c =
    let s = c.self.inside in
    let e = entry_of (key_of c.args.key.now) c.args.value.now in
    rw (c.shared_with-shared.ensures, c.deref.ensures.value) (share_small s.interval s.count (entries_in s.text.items) s.text.items s.offsets.items s.last.items (key_text e) c.self.invariant)

pub returns-clause-exact : goal.returns-clause-exact
returns-clause-exact c =
    let s = c.self.inside in
    let e = entry_of (key_of c.args.key.now) c.args.value.now in
    let with = length-with s.interval s.count (entries_in s.text.items) s.text.items s.offsets.items s.last.items e _ _ _ _ _ c.self.invariant
    (c.len.ensures ∙ s.text.ok.0) (c.len-2.ensures ∙ s.offsets.ok.0) (c.shared_with-shared.ensures ∙ ap (λ (xs : List ℕ). shared_at s.interval s.count xs (key_text e)) c.deref.ensures.value)
    c.is_later-later.ensures (length-unshared c.shared_with-shared.result (key_of c.args.key.now)) in
    subst (λ (b : Building). length (block_bytes b.interval (b.entries ++ e ∷ [])) < 2 ^ 32 → c.grown_size.result ≡ length (block_bytes b.interval (b.entries ++ e ∷ []))) c.self.view_is
    (rw with c.grown_size.ensures.exact)

pub returns-clause-over : goal.returns-clause-over
returns-clause-over c =
    let s = c.self.inside in
    let e = entry_of (key_of c.args.key.now) c.args.value.now in
    let with = length-with s.interval s.count (entries_in s.text.items) s.text.items s.offsets.items s.last.items e _ _ _ _ _ c.self.invariant
    (c.len.ensures ∙ s.text.ok.0) (c.len-2.ensures ∙ s.offsets.ok.0) (c.shared_with-shared.ensures ∙ ap (λ (xs : List ℕ). shared_at s.interval s.count xs (key_text e)) c.deref.ensures.value)
    c.is_later-later.ensures (length-unshared c.shared_with-shared.result (key_of c.args.key.now)) in
    subst (λ (b : Building). 2 ^ 32 ≤ length (block_bytes b.interval (b.entries ++ e ∷ [])) → 2 ^ 32 ≤ c.grown_size.result) c.self.view_is
    (rw with c.grown_size.ensures.over)
