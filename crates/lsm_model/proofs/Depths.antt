-- For the code that searches by depths: what a file has that no lesser depth has is the answer of
-- the whole version.
use Rattle.std.proofs.Common.{◌≡◌, ℕ, ◌≤◌, true, false, List, Some, sym, ◌∙◌, subst, inl, inr, arith}
use Rattle.std.proofs.lemmas.Bool.{cases_lt, cases_order}
use Rattle.lsm_codec.specs.Entries.{Entry, stamp, is_allowed, newest}
use Rattle.lsm_codec.specs.Keys.{UserKey}
use Rattle.lsm_codec.specs.Lists.{Has}
use Rattle.lsm_codec.proofs.CallerLemmas.{IsAllowed, IsNewest, Finds, newest_finds, allowed_from, stamp_lt}
use Rattle.lsm_model.specs.Files.{File, all_entries, Shallower, IsLawful}
use Rattle.lsm_model.proofs.Drops.{newest_is}
use Rattle.lsm_model.proofs.Installs.{all_has, has_all, one_each}

-- e is the newest of its file; no file of a lesser depth has an allowed entry, and no other file of
-- its level has a newer one
pub depth_newest : (v : List File) (F : File) (k : UserKey) (s : ℕ) (e : Entry) → IsLawful v → Has v F → IsNewest F.entries k s e
    → ((G : File) (y : Entry) → Has v G → Shallower G F → Has G.entries y → IsAllowed k s y → ⊥)
    → ((G : File) (y : Entry) → Has v G → G.level ≡ F.level → 1 ≤ F.level → Has G.entries y → IsAllowed k s y → stamp y ≤ stamp e)
    → newest k s (all_entries v) ≡ Some e
depth_newest v F k s e l hF n above beside = newest_is (all_entries v) k s e (one_each v l) record {
  here = has_all v F e hF n.here;
  allowed = n.allowed;
  most = λ y h a. (let r = all_has v y h in most y r.0 r.1 r.2 a);
}
  where
    deeper : (y : Entry) (G : File) → Has v G → Has G.entries y → IsAllowed k s y → Shallower F G → stamp y ≤ stamp e
    deeper y G hG ky a sh = (let lt = stamp_lt y e (l.depth F G e y hF hG sh n.here ky (n.allowed.key ∙ sym a.key)) in omega arith)

    most : (y : Entry) (G : File) → Has v G → Has G.entries y → IsAllowed k s y → stamp y ≤ stamp e
    most y G hG ky a = elim (cases_order F.level G.level) [
      | inl same ↦ elim (cases_lt 0 F.level) [
        | inl pos ↦ beside G y hG (sym same) pos ky a
        | inr zero_level ↦ elim (cases_order F.number G.number) [
          | inl e2 ↦ n.most y (subst (λ (D : File). Has D.entries y) (sym (l.numbers F G hF hG e2)) ky) a
          | inr o ↦ elim o [
            | inl lt ↦ absurd (above G y hG (inr (omega arith, omega arith, lt)) ky a)
            | inr gt ↦ deeper y G hG ky a (inr (omega arith, omega arith, gt))
          ]
        ]
      ]
      | inr o ↦ elim o [
        | inl lt ↦ deeper y G hG ky a (inl lt)
        | inr gt ↦ absurd (above G y hG (inl gt) ky a)
      ]
    ]

pub goes_by_depth : (v : List File) (F : File) (k : UserKey) (s : ℕ) (e : Entry) → IsLawful v → Has v F → newest k s F.entries ≡ Some e
    → ((G : File) (y : Entry) → Has v G → Shallower G F → Has G.entries y → is_allowed k s y ≡ false)
    → ((G : File) (y : Entry) → Has v G → G.level ≡ F.level → 1 ≤ F.level → Has G.entries y → is_allowed k s y ≡ true → stamp y ≤ stamp e)
    → newest k s (all_entries v) ≡ Some e
goes_by_depth v F k s e l hF n above beside = depth_newest v F k s e l hF (subst (Finds F.entries k s) n (newest_finds k s F.entries))
    (λ G y hG sh ky a. absurd (cc (above G y hG sh ky, allowed_from k s y a)))
    (λ G y hG same pos ky a. beside G y hG same pos ky (allowed_from k s y a))
