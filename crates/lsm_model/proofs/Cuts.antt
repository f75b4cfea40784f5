-- Pieces of an ascending list, cut between keys, hold its entries apart.
use Rattle.std.proofs.Common.{◌≡◌, ℕ, Bool, true, false, cond, List, [], ◌∷◌, ◌++◌, refl, sym, ◌∙◌, ap, subst, inl, inr, arith}
use Rattle.std.specs.Prelude.{◌&&◌, not}
use Rattle.std.specs.List.{filter}
use Rattle.lsm_codec.specs.Entries.{Entry}
use Rattle.lsm_codec.specs.Keys.{UserKey, UserLe}
use Rattle.lsm_codec.specs.Lists.{Has}
use Rattle.lsm_codec.proofs.CallerLemmas.{user_le_trans, user_le_antisym, user_le_refl, has_right, has_cases, filter_has}
use Rattle.lsm_model.specs.Files.{File, all_entries, Apart, OneEach, Fits, Before}
use Rattle.lsm_model.specs.Jobs.{Holds}
use Rattle.lsm_model.specs.Kept.{is_hidden, is_void, kept_entries}
use Rattle.lsm_model.specs.Streams.{IsAscending, IsMerge, Ends, CutAtKeys, NumbersRise, IsCut}
use Rattle.lsm_model.proofs.Installs.{has_all}
use Rattle.lsm_model.proofs.Kept.{kept_says, kept_cases}
use Rattle.lsm_model.proofs.Streams.{before_key, before_stamp, ascending_halves, ascending_left, ascending_right}

-- an ascending list has one entry of each key and stamp
pub ascending_one_each : (es : List Entry) → IsAscending es → OneEach es
ascending_one_each [] a x y hx hy key same = absurd hx
ascending_one_each (z ∷ es) a x y (inl e) (inl f) key same = sym e ∙ f
ascending_one_each (z ∷ es) a x y (inl e) (inr h) key same =
    let b : Before x y = subst (λ (w : Entry). Before w y) e (a.0 y h) in
    (let lt = before_stamp x y b key in absurd (omega arith))
ascending_one_each (z ∷ es) a x y (inr h) (inl f) key same =
    let b : Before y x = subst (λ (w : Entry). Before w x) f (a.0 x h) in
    (let lt = before_stamp y x b (sym key) in absurd (omega arith))
ascending_one_each (z ∷ es) a x y (inr h) (inr k) key same = ascending_one_each es a.1 x y h k key same

-- a file of ascending entries whose range begins with the first and ends with the last
pub ends_fits : (F : File) → Ends F → IsAscending F.entries → Fits F
ends_fits F e a = record {
  above = λ x h. elim (subst (λ es. Has es x) e.first.2 h) [
    | inl is ↦ subst (UserLe F.low) (sym e.first.3 ∙ ap (λ (w : Entry). w.user) is) (user_le_refl F.low)
    | inr later ↦ subst (λ (k : UserKey). UserLe k x.user) e.first.3 (before_key e.first.0 x ((subst IsAscending e.first.2 a).0 x later))
  ];
  below = λ x h. elim (has_cases e.last.0 (e.last.1 ∷ []) x (subst (λ es. Has es x) e.last.2 h)) [
    | inl front ↦ subst (UserLe x.user) e.last.3 (before_key x e.last.1 (ascending_halves e.last.0 (e.last.1 ∷ []) (subst IsAscending e.last.2 a) x e.last.1 front (inl refl)))
    | inr l ↦ elim l [
      | inl is ↦ subst (λ (k : UserKey). UserLe k F.high) (sym e.last.3 ∙ ap (λ (w : Entry). w.user) is) (user_le_refl F.high)
      | inr none ↦ absurd none
    ]
  ];
  first = (e.first.0, subst (λ es. Has es e.first.0) (sym e.first.2) (inl refl), e.first.3);
  last = (e.last.1, subst (λ es. Has es e.last.1) (sym e.last.2) (has_right e.last.0 (e.last.1 ∷ []) e.last.1 (inl refl)), e.last.3);
  one_each = ascending_one_each F.entries a;
}

piece_ascending : (outs : List File) → IsAscending (all_entries outs) → (F : File) → Has outs F → IsAscending F.entries
piece_ascending [] a F h = absurd h
piece_ascending (G ∷ outs) a F (inl e) = subst (λ (D : File). IsAscending D.entries) e (ascending_left G.entries (all_entries outs) a)
piece_ascending (G ∷ outs) a F (inr h) = piece_ascending outs (ascending_right G.entries (all_entries outs) a) F h

-- a later piece begins no sooner than an earlier one ends
no_sooner : (F : File) (rest : List File) → IsAscending (F.entries ++ all_entries rest) → Ends F → (G : File) → Has rest G → Ends G → UserLe F.high G.low
no_sooner F rest a f G h g =
    let x = f.last.1 in
    let y = g.first.0 in
    let x_in : Has F.entries x = subst (λ es. Has es x) (sym f.last.2) (has_right f.last.0 (x ∷ []) x (inl refl)) in
    let y_in : Has (all_entries rest) y = has_all rest G y h (subst (λ es. Has es y) (sym g.first.2) (inl refl)) in
    subst (λ (k : UserKey). UserLe k G.low) f.last.3 (subst (UserLe x.user) g.first.3 (before_key x y (ascending_halves F.entries (all_entries rest) a x y x_in y_in)))

-- and not at the same key
head_apart : (F : File) (rest : List File) → IsAscending (F.entries ++ all_entries rest) → CutAtKeys (F ∷ rest) → ((G : File) → Has (F ∷ rest) G → Ends G) → (G : File) → Has rest G → UserLe G.low F.high → ⊥
head_apart F [] a c e G h le = h
head_apart F (H ∷ rest) a c e G (inl is) le =
    let under : UserLe H.low F.high = subst (λ (D : File). UserLe D.low F.high) (sym is) le in
    c.0 (user_le_antisym F.high H.low (no_sooner F (H ∷ rest) a (e F (inl refl)) H (inl refl) (e H (inr (inl refl)))) under)
head_apart F (H ∷ rest) a c e G (inr h) le =
    let tail : IsAscending (H.entries ++ all_entries rest) = ascending_right F.entries (H.entries ++ all_entries rest) a in
    let to_H : UserLe F.high H.low = no_sooner F (H ∷ rest) a (e F (inl refl)) H (inl refl) (e H (inr (inl refl))) in
    let through : UserLe H.high G.low = no_sooner H rest tail (e H (inr (inl refl))) G h (e G (inr (inr h))) in
    let fit : Fits H = ends_fits H (e H (inr (inl refl))) (ascending_left H.entries (all_entries rest) tail) in
    let own : UserLe H.low H.high = subst (λ (k : UserKey). UserLe k H.high) fit.first.2 (fit.below fit.first.0 fit.first.1) in
    c.0 (user_le_antisym F.high H.low to_H (user_le_trans H.low H.high F.high own (user_le_trans H.high G.low F.high through le)))

pieces_apart : (outs : List File) → IsAscending (all_entries outs) → CutAtKeys outs → ((G : File) → Has outs G → Ends G) → (F G : File) → Has outs F → Has outs G → (F.number ≡ G.number → ⊥) → Apart F G
pieces_apart [] a c e F G hF hG ne m = hF
pieces_apart (H ∷ outs) a c e F G (inl p) (inl q) ne m = ne (ap (λ (D : File). D.number) (sym p ∙ q))
pieces_apart (H ∷ outs) a c e F G (inl p) (inr q) ne m = head_apart H outs a c e G q (subst (λ (D : File). UserLe G.low D.high) (sym p) m.1)
pieces_apart (H ∷ outs) a c e F G (inr p) (inl q) ne m = head_apart H outs a c e F p (subst (λ (D : File). UserLe F.low D.high) (sym q) m.0)
pieces_apart (H ∷ []) a c e F G (inr p) (inr q) ne m = p
pieces_apart (H ∷ I ∷ outs) a c e F G (inr p) (inr q) ne m = pieces_apart (I ∷ outs) (ascending_right H.entries (all_entries (I ∷ outs)) a) c.1 (λ D h. e D (inr h)) F G p q ne m

pub rising_numbers : (outs : List File) → NumbersRise outs → (F G : File) → Has outs F → Has outs G → F.number ≡ G.number → F ≡ G
rising_numbers [] r F G hF hG e = absurd hF
rising_numbers (H ∷ outs) r F G (inl p) (inl q) e = sym p ∙ q
rising_numbers (H ∷ outs) r F G (inl p) (inr q) e = (let lt = r.0 G q in let n = ap (λ (D : File). D.number) p in absurd (omega arith))
rising_numbers (H ∷ outs) r F G (inr p) (inl q) e = (let lt = r.0 F p in let n = ap (λ (D : File). D.number) q in absurd (omega arith))
rising_numbers (H ∷ outs) r F G (inr p) (inr q) e = rising_numbers outs r.1 F G p q e

pub cut_holds : (level : ℕ) (K : List Entry) (outs : List File) → IsAscending K → IsCut level K outs → Holds level K outs
cut_holds level K outs a c = record {
  levels = c.levels;
  fits = λ F h. ends_fits F (c.ends F h) (piece_ascending outs asc F h);
  from = λ F e h k. subst (λ es. Has es e) c.whole (has_all outs F e h k);
  to = λ e h. subst (λ es. Has es e) (sym c.whole) h;
  apart = pieces_apart outs asc c.cuts c.ends;
  numbers = rising_numbers outs c.rising;
}
  where
    asc : IsAscending (all_entries outs)
    asc = subst IsAscending (sym c.whole) a

-- lists with the same members keep the same
pub kept_members : (es fs : List Entry) (f : ℕ) (ranges : List (UserKey × UserKey)) → ((e : Entry) → Has es e → Has fs e) → ((e : Entry) → Has fs e → Has es e)
    → (e : Entry) → Has (kept_entries es f ranges) e → Has (kept_entries fs f ranges) e
kept_members es fs f ranges there back e h =
    let k = kept_says es f ranges e h in
    elim (kept_cases fs f ranges e (there e k.input)) [
      | inl in_fs ↦ in_fs
      | inr o ↦ elim o [
        | inl hid ↦ absurd (k.seen (hid.0, back hid.0 hid.1, hid.2, hid.3, hid.4))
        | inr void ↦ absurd (k.needed void.0)
      ]
    ]

-- a part of an ascending list by a filter
pub ascending_filter : (p : Entry → Bool) (es : List Entry) → IsAscending es → IsAscending (filter p es)
ascending_filter p [] a = tt
ascending_filter p (x ∷ es) a = go (p x) (ascending_filter p es a.1)
  where
    go : (b : Bool) → IsAscending (filter p es) → IsAscending (cond b (x ∷ filter p es) (filter p es))
    go true rest = (λ y h. a.0 y (filter_has p es y h).0, rest)
    go false rest = rest

-- what a finished merge hands in, as its contract says it
pub finished_holds : (level : ℕ) (merged es : List Entry) (f : ℕ) (ranges : List (UserKey × UserKey)) (outs : List File) → IsMerge merged es → IsCut level (kept_entries merged f ranges) outs
    → Holds level (kept_entries es f ranges) outs
finished_holds level merged es f ranges outs m c = record {
  levels = h.levels;
  fits = h.fits;
  from = λ F e hF k. kept_members merged es f ranges m.from m.to e (h.from F e hF k);
  to = λ e k. h.to e (kept_members es merged f ranges m.to m.from e k);
  apart = h.apart;
  numbers = h.numbers;
}
  where
    h : Holds level (kept_entries merged f ranges) outs
    h = cut_holds level (kept_entries merged f ranges) outs (ascending_filter (λ (e : Entry). not (is_hidden merged f e) && not (is_void f ranges e)) merged m.ascending) c
