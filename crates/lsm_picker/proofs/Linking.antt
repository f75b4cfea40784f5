-- Files that a range reaches, where each meets it or one before it.
use Rattle.std.proofs.Common.{◌≡◌, ℕ, List, sym, subst, inl, inr}
use Rattle.std.specs.Prelude.{◌⊎◌}
use Rattle.lsm_codec.specs.Keys.{UserKey, UserLe}
use Rattle.lsm_codec.specs.Lists.{Has}
use Rattle.lsm_codec.proofs.CallerLemmas.{user_le_total, user_le_trans}
use Rattle.lsm_model.specs.Files.{File, Meets}
use Rattle.lsm_model.specs.Plans.{IsLinked, starting, meeting}

-- a file of the level that reaches down to a linked one, and ends before the range begins, is linked
linked_left : (v : List File) (level : ℕ) (from to : UserKey) (g : File) → UserLe g.low g.high → Has v g → g.level ≡ level → UserLe g.high from
    → (w : File) → IsLinked v level (λ G. Meets G from to) w → UserLe w.low g.high → IsLinked v level (λ G. Meets G from to) g
linked_left v level from to g own hg at before w (starting _ h e s) le =
    meeting w g (starting w h e s) hg at (user_le_trans g.low g.high w.high own (user_le_trans g.high from w.high before s.1), le)
linked_left v level from to g own hg at before w (meeting F _ l h e m) le = elim (user_le_total F.low g.high) [
  | inl under ↦ linked_left v level from to g own hg at before F l under
  | inr over ↦ meeting w g (meeting F w l h e m) hg at (user_le_trans g.low g.high w.high own (user_le_trans g.high F.low w.high over m.1), le)
]

linked_right : (v : List File) (level : ℕ) (from to : UserKey) (g : File) → UserLe g.low g.high → Has v g → g.level ≡ level → UserLe to g.low
    → (w : File) → IsLinked v level (λ G. Meets G from to) w → UserLe g.low w.high → IsLinked v level (λ G. Meets G from to) g
linked_right v level from to g own hg at after w (starting _ h e s) le =
    meeting w g (starting w h e s) hg at (le, user_le_trans w.low g.low g.high (user_le_trans w.low to g.low s.0 after) own)
linked_right v level from to g own hg at after w (meeting F _ l h e m) le = elim (user_le_total g.low F.high) [
  | inl under ↦ linked_right v level from to g own hg at after F l under
  | inr over ↦ meeting w g (meeting F w l h e m) hg at (le, user_le_trans w.low g.low g.high (user_le_trans w.low F.high g.low m.0 over) own)
]

-- the low end of a range that grew by linked files
abbrev pub LowFrom : List File → ℕ → UserKey → UserKey → UserKey → Type 0
LowFrom v level from to low = (low ≡ from) ⊎ ((a : File) × IsLinked v level (λ G. Meets G from to) a × (a.low ≡ low))

abbrev pub HighFrom : List File → ℕ → UserKey → UserKey → UserKey → Type 0
HighFrom v level from to high = (high ≡ to) ⊎ ((b : File) × IsLinked v level (λ G. Meets G from to) b × (b.high ≡ high))

-- what meets the grown range is linked
pub grown_linked : (v : List File) (level : ℕ) (from to low high : UserKey) (g : File) → UserLe g.low g.high → Has v g → g.level ≡ level
    → LowFrom v level from to low → HighFrom v level from to high → Meets g low high → IsLinked v level (λ G. Meets G from to) g
grown_linked v level from to low high g own h at a b m = elim (user_le_total from g.high) [
  | inl over ↦ right over b
  | inr before ↦ elim a [
    | inl e ↦ right (subst (λ (k : UserKey). UserLe k g.high) e m.1) b
    | inr w ↦ linked_left v level from to g own h at before w.0 w.1 (subst (λ (k : UserKey). UserLe k g.high) (sym w.2) m.1)
  ]
]
  where
    right : UserLe from g.high → HighFrom v level from to high → IsLinked v level (λ G. Meets G from to) g
    right over (inl e) = starting g h at (subst (UserLe g.low) e m.0, over)
    right over (inr w) = elim (user_le_total g.low to) [
      | inl under ↦ starting g h at (under, over)
      | inr after ↦ linked_right v level from to g own h at after w.0 w.1 (subst (UserLe g.low) (sym w.2) m.0)
    ]

-- where no file outside meets the grown range, every linked file is in
pub grown_all : (v : List File) (level : ℕ) (from to low high : UserKey) (files : List File) → UserLe low from → UserLe to high
    → ((F : File) → Has files F → UserLe low F.low × UserLe F.high high)
    → ((F : File) → Has v F → F.level ≡ level → Meets F low high → Has files F) → (F : File) → IsLinked v level (λ G. Meets G from to) F → Has files F
grown_all v level from to low high files l r spans closed F (starting _ h at st) = closed F h at (user_le_trans F.low to high st.0 r, user_le_trans low from F.high l st.1)
grown_all v level from to low high files l r spans closed F (meeting E _ k h at m) =
    let e = spans E (grown_all v level from to low high files l r spans closed E k) in
    closed F h at (user_le_trans F.low E.high high m.0 e.1, user_le_trans low E.low F.high e.0 m.1)

-- what starting files reach, others reach that reach them
pub linked_from : (v : List File) (level : ℕ) (Start Other : File → Type 0) → ((F : File) → Has v F → F.level ≡ level → Start F → IsLinked v level Other F)
    → (F : File) → IsLinked v level Start F → IsLinked v level Other F
linked_from v level Start Other reach F (starting _ h at s) = reach F h at s
linked_from v level Start Other reach F (meeting E _ l h at m) = meeting E F (linked_from v level Start Other reach E l) h at m
