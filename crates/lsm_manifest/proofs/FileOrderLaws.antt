-- The order of files whose smallest keys are internal keys.
use Rattle.std.proofs.Common.{◌≡◌, ℕ, false, ltb, List, length, refl, ap, ◌∙◌}
use Rattle.std.specs.Ordering.{nat_cmp, ordering_then}
use Rattle.std.specs.Cmp.Lexicographic.{slice_cmp}
use Rattle.std.specs.declared.cmp.Ordering.{Ordering}
use Rattle.std.specs.declared.cmp.Ordering.TheVariants.{Less, Equal, Greater}
use Rattle.std.proofs.lemmas.Bool.{le-ltb}
use Rattle.lsm_codec.specs.Keys.{InternalKey, IsKey, packed, key_cmp, then_by, user_part, packed_part}
use Rattle.lsm_codec.proofs.CallerLemmas.{key_long, parts_of_key}
use Rattle.lsm_manifest.specs.declared.file_meta.FileMeta.{FileMeta}
use Rattle.lsm_manifest.specs.FileOrder.{file_cmp}

user_is : (bytes : List ℕ) (k : InternalKey) → IsKey bytes k → user_part bytes ≡ k.user
unfolding user_part
user_is bytes k is =
    let long : ltb (length bytes) 8 ≡ false = le-ltb _ _ (key_long bytes k is) in
    rw long (parts_of_key bytes k is).0

packed_is : (bytes : List ℕ) (k : InternalKey) → IsKey bytes k → packed_part bytes ≡ packed k
unfolding packed_part
packed_is bytes k is =
    let long : ltb (length bytes) 8 ≡ false = le-ltb _ _ (key_long bytes k is) in
    rw long (parts_of_key bytes k is).1

grouped : (u p n : Ordering) → ordering_then u (ordering_then p n) ≡ then_by (then_by u p) n
grouped Less p n = refl
grouped Greater p n = refl
grouped Equal Less n = refl
grouped Equal Equal n = refl
grouped Equal Greater n = refl

pub order_is : (f g : FileMeta) (k l : InternalKey) → IsKey f.smallest k → IsKey g.smallest l → file_cmp f g ≡ then_by (key_cmp k l) (nat_cmp f.number g.number)
order_is f g k l a b =
    let u = user_is f.smallest k a in
    let v = user_is g.smallest l b in
    let p = packed_is f.smallest k a in
    let q = packed_is g.smallest l b in
    let parts : file_cmp f g ≡ ordering_then (slice_cmp nat_cmp k.user l.user) (ordering_then (nat_cmp (packed l) (packed k)) (nat_cmp f.number g.number)) =
    ap (λ (x : List ℕ). ordering_then (slice_cmp nat_cmp x (user_part g.smallest)) (ordering_then (nat_cmp (packed_part g.smallest) (packed_part f.smallest)) (nat_cmp f.number g.number))) u
    ∙ ap (λ (x : List ℕ). ordering_then (slice_cmp nat_cmp k.user x) (ordering_then (nat_cmp (packed_part g.smallest) (packed_part f.smallest)) (nat_cmp f.number g.number))) v
    ∙ ap (λ (x : ℕ). ordering_then (slice_cmp nat_cmp k.user l.user) (ordering_then (nat_cmp (packed_part g.smallest) x) (nat_cmp f.number g.number))) p
    ∙ ap (λ (x : ℕ). ordering_then (slice_cmp nat_cmp k.user l.user) (ordering_then (nat_cmp x (packed k)) (nat_cmp f.number g.number))) q in
    parts ∙ grouped (slice_cmp nat_cmp k.user l.user) (nat_cmp (packed l) (packed k)) (nat_cmp f.number g.number)
