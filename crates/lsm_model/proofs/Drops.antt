-- The drop lemma: what a merge drops changes no answer from the floor on.
use Rattle.std.proofs.Common.{◌≡◌, ℕ, ◌≤◌, ◌<◌, List, Option, Some, None, refl, sym, ◌∙◌, ap, inl, inr, arith}
use Rattle.std.specs.Prelude.{◌⊎◌}
use Rattle.lsm_codec.specs.declared.kind.Kind.{Kind}
use Rattle.lsm_codec.specs.declared.kind.Kind.TheVariants.{Deletion}
use Rattle.lsm_codec.specs.Entries.{Entry, stamp, newest, value_in, answer, shown}
use Rattle.lsm_codec.specs.Keys.{UserKey}
use Rattle.lsm_codec.specs.Lists.{Has}
use Rattle.lsm_codec.proofs.CallerLemmas.{IsAllowed, IsNewest, Finds, newest_finds, seq_le}
use Rattle.lsm_model.specs.Files.{OneEach}
use Rattle.lsm_model.specs.Kept.{IsHidden}

pub newest_is : (es : List Entry) (k : UserKey) (s : ℕ) (e : Entry) → OneEach es → IsNewest es k s e → newest k s es ≡ Some e
newest_is es k s e one n = go (newest k s es) (newest_finds k s es)
  where
    go : (o : Option Entry) → Finds es k s o → o ≡ Some e
    go None none = absurd (none e n.here n.allowed)
    go (Some f) m =
        let below : stamp e ≤ stamp f = m.most e n.here n.allowed in
        let above : stamp f ≤ stamp e = n.most f m.here m.allowed in
        ap (λ (w : Entry). Some w) (one f e m.here n.here (m.allowed.key ∙ sym n.allowed.key) (omega arith))

-- e is a deletion, and what is left of its key is newer
abbrev pub IsGone : List Entry → Entry → Type 0
IsGone es e = (e.kind ≡ Deletion) × ((z : Entry) → Has es z → z.user ≡ e.user → e.seq < z.seq)

-- new is a part of old, and what is missing was hidden or is gone
pub record Drops (old new : List Entry) (f : ℕ) : Type 0 where
  pub within : (e : Entry) → Has new e → Has old e
  pub lost : (e : Entry) → Has old e → Has new e ⊎ (IsHidden old f e ⊎ IsGone new e)

pub one_each_part : (old new : List Entry) → ((e : Entry) → Has new e → Has old e) → OneEach old → OneEach new
one_each_part old new part one = λ x y hx hy. one x y (part x hx) (part y hy)

pub drops_answer : (old new : List Entry) (f s : ℕ) (k : UserKey) → OneEach old → Drops old new f → f ≤ s → answer new k s ≡ answer old k s
drops_answer old new f s k one d le = go (newest k s old) (newest_finds k s old)
  where
    none_new : ((y : Entry) → Has old y → IsAllowed k s y → ⊥) → (o : Option Entry) → Finds new k s o → value_in o ≡ None
    none_new none None n = refl
    none_new none (Some z) n = absurd (none z (d.within z n.here) n.allowed)

    gone_new : (m : Entry) → IsNewest old k s m → IsGone new m → (o : Option Entry) → Finds new k s o → value_in o ≡ None
    gone_new m n g None x = refl
    gone_new m n g (Some z) x =
        let newer : m.seq < z.seq = g.1 z x.here (x.allowed.key ∙ sym n.allowed.key) in
        let most : stamp z ≤ stamp m = n.most z (d.within z x.here) x.allowed in
        absurd (omega (arith, seq_le z m most))

    at_hidden : (m : Entry) → IsNewest old k s m → IsHidden old f m → ⊥
    at_hidden m n h =
        let most : stamp h.0 ≤ stamp m = n.most h.0 h.1 record { key = h.2 ∙ n.allowed.key; seq = omega arith } in
        omega arith

    deleted : (m : Entry) → m.kind ≡ Deletion → value_in (Some m) ≡ None
    deleted m e = ap (λ (b : Kind). shown b m.value) e

    at_lost : (m : Entry) → IsNewest old k s m → Has new m ⊎ (IsHidden old f m ⊎ IsGone new m) → value_in (newest k s new) ≡ value_in (Some m)
    at_lost m n (inl h) = ap value_in (newest_is new k s m (one_each_part old new d.within one) record {
      here = h;
      allowed = n.allowed;
      most = λ y hy a. n.most y (d.within y hy) a;
    })
    at_lost m n (inr (inl h)) = absurd (at_hidden m n h)
    at_lost m n (inr (inr g)) = gone_new m n g (newest k s new) (newest_finds k s new) ∙ sym (deleted m g.0)

    go : (o : Option Entry) → Finds old k s o → value_in (newest k s new) ≡ value_in o
    go None none = none_new none (newest k s new) (newest_finds k s new)
    go (Some m) n = at_lost m n (d.lost m n.here)

-- lists of the same entries answer alike
pub same_answer : (old new : List Entry) (k : UserKey) (q : ℕ) → OneEach old → ((e : Entry) → Has new e → Has old e) → ((e : Entry) → Has old e → Has new e) → answer new k q ≡ answer old k q
same_answer old new k q one there back = drops_answer old new 0 q k one record { within = there; lost = λ e h. inl (back e h) } (omega arith)
