-- The two laws of requests: what is read is spelled so, and what is spelled so is read.
use Rattle.std.proofs.Common.{◌≡◌, ℕ, ◌^◌, Bool, true, false, cond, eqb, List, [], ◌∷◌, ◌++◌, length, Option, Some, None, refl, sym, ap, subst, ◌∙◌, append_assoc, arith}
use Rattle.std.specs.List.{flat_map}
use Rattle.std.specs.Int.{w32, w64, to_le_bytes}
use Rattle.std.proofs.lemmas.Bool.{eqb-true, ne_eqb}
use Rattle.std.proofs.lemmas.List.{append-nil, length-append, nil_from_length}
use Rattle.std.proofs.lemmas.Option.{cond_some}
use Rattle.lsm_frames.specs.Texts.{text, optional}
use Rattle.lsm_frames.specs.Requests.{Asked, Between, Stretch, Writes, Reads, Scans, Snapshots, Releases, Compacts, CompactsRange, Collects, Statistics, when_text, written_text, stretch_text, between_text, spelled, FitsText, FitsWritten, FitsStretch, FitsBetween, Fits, IsRequest}
use Rattle.lsm_frames.specs.Reading.{◌>>=◌, number_at, text_at, optional_at, when_at, written_at}
use Rattle.lsm_frames.specs.RequestReading.{some_in, whole, writes_at, reads_at, stretch_at, scan_at, release_at, between_at, compact_at, body_at, asked_at}
use Rattle.lsm_frames.proofs.ByteLaws.{IsBytes, IsBytes-rest, bind_some, some_is, Takes, Takes-then}
use Rattle.lsm_frames.proofs.FieldLaws.{wide32, wide64, number_takes, number_again, length-text, text_takes, text_again, text_format, optional_takes, optional_again, when_takes, when_again, written_format}
use Rattle.lsm_frames.proofs.ItemLaws.{some_take, some_again}

-- ---- what is read is spelled so

whole_take : (x a : Asked) (bytes : List ℕ) → whole x bytes ≡ Some a → (bytes ≡ []) × (x ≡ a)
whole_take x a bytes e =
    let g = cond_some (eqb (length bytes) 0) x a e in
    (nil_from_length bytes (eqb-true _ _ g.0), g.1)

-- a request with no parts
bare_take : (form : ℕ) (x a : Asked) (bytes : List ℕ) → spelled x ≡ form ∷ [] → Fits x → whole x bytes ≡ Some a → IsRequest (form ∷ bytes) a
bare_take form x a bytes own fits e =
    let g = whole_take x a bytes e in
    subst (λ (y : Asked). IsRequest (form ∷ bytes) y) g.1 (record { bytes_are = ap (λ (t : List ℕ). form ∷ t) g.0 ∙ sym own; fits = fits })

writes_take : (bytes : List ℕ) (a : Asked) → IsBytes bytes → writes_at bytes ≡ Some a → IsRequest (1 ∷ bytes) a
unfolding writes_at spelled
writes_take bytes a fits e =
    let b = bind_some (some_in written_at bytes) (λ ws. Some (Writes ws)) a e in
    let t = some_take written_at written_text FitsWritten written_format bytes b.0 fits b.1 in
    subst (λ (y : Asked). IsRequest (1 ∷ bytes) y) (some_is (Writes b.0) a b.2) (record { bytes_are = ap (λ (u : List ℕ). 1 ∷ u) t.0; fits = t.1 })

reads_take : (bytes : List ℕ) (a : Asked) → IsBytes bytes → reads_at bytes ≡ Some a → IsRequest (2 ∷ bytes) a
unfolding reads_at spelled
reads_take bytes a fits e =
    let b = bind_some (when_at bytes) (λ w. some_in text_at w.1 >>= λ ks. Some (Reads w.0 ks)) a e in
    let d = bind_some (some_in text_at b.0.1) (λ ks. Some (Reads b.0.0 ks)) a b.2 in
    let w = when_takes bytes b.0.0 b.0.1 fits b.1 in
    let t = some_take text_at text FitsText text_format b.0.1 d.0 w.0.rest_fits d.1 in
    let both : bytes ≡ when_text b.0.0 ++ flat_map text d.0 = w.0.parts ∙ ap (λ (u : List ℕ). when_text b.0.0 ++ u) t.0 in
    subst (λ (y : Asked). IsRequest (2 ∷ bytes) y) (some_is (Reads b.0.0 d.0) a d.2) (record { bytes_are = ap (λ (u : List ℕ). 2 ∷ u) both; fits = (w.1, t.1) })

stretch_takes : (bytes : List ℕ) (s : Stretch) (rest : List ℕ) → IsBytes bytes → stretch_at bytes ≡ Some (s, rest) → Takes bytes (stretch_text s) rest × FitsStretch s
unfolding stretch_at
stretch_takes bytes s rest fits e =
    let b = bind_some (when_at bytes) (λ w. text_at w.1 >>= λ f. optional_at f.1 >>= λ t. number_at w32 t.1 >>= λ n. Some (record { when = w.0; from = f.0; to = t.0; limit = n.0 }, n.1)) (s, rest) e in
    let d = bind_some (text_at b.0.1) (λ f. optional_at f.1 >>= λ t. number_at w32 t.1 >>= λ n. Some (record { when = b.0.0; from = f.0; to = t.0; limit = n.0 }, n.1)) (s, rest) b.2 in
    let f = bind_some (optional_at d.0.1) (λ t. number_at w32 t.1 >>= λ n. Some (record { when = b.0.0; from = d.0.0; to = t.0; limit = n.0 }, n.1)) (s, rest) d.2 in
    let h = bind_some (number_at w32 f.0.1) (λ n. Some (record { when = b.0.0; from = d.0.0; to = f.0.0; limit = n.0 }, n.1)) (s, rest) f.2 in
    let t0 = when_takes bytes b.0.0 b.0.1 fits b.1 in
    let t1 = text_takes b.0.1 d.0.0 d.0.1 t0.0.rest_fits d.1 in
    let t2 = optional_takes d.0.1 f.0.0 f.0.1 t1.0.rest_fits f.1 in
    let t3 = number_takes w32 (2 ^ 32) wide32 f.0.1 h.0.0 h.0.1 t2.0.rest_fits h.1 in
    let e23 = Takes-then d.0.1 (optional f.0.0) f.0.1 (to_le_bytes w32 h.0.0) h.0.1 t2.0 t3.0 in
    let e13 = Takes-then b.0.1 (text d.0.0) d.0.1 (optional f.0.0 ++ to_le_bytes w32 h.0.0) h.0.1 t1.0 e23 in
    let e03 = Takes-then bytes (when_text b.0.0) b.0.1 (text d.0.0 ++ (optional f.0.0 ++ to_le_bytes w32 h.0.0)) h.0.1 t0.0 e13 in
    let made : Stretch × List ℕ = (record { when = b.0.0; from = d.0.0; to = f.0.0; limit = h.0.0 }, h.0.1) in
    subst (λ (y : Stretch × List ℕ). Takes bytes (stretch_text y.0) y.1 × FitsStretch y.0) (some_is made (s, rest) h.2) (e03, record { when = t0.1; from = t1.1; to = t2.1; limit = t3.1 })

scan_take : (bytes : List ℕ) (a : Asked) → IsBytes bytes → scan_at bytes ≡ Some a → IsRequest (3 ∷ bytes) a
unfolding scan_at spelled
scan_take bytes a fits e =
    let b = bind_some (stretch_at bytes) (λ s. whole (Scans s.0) s.1) a e in
    let t = stretch_takes bytes b.0.0 b.0.1 fits b.1 in
    let g = whole_take (Scans b.0.0) a b.0.1 b.2 in
    let all : bytes ≡ stretch_text b.0.0 = t.0.parts ∙ ap (λ (u : List ℕ). stretch_text b.0.0 ++ u) g.0 ∙ append-nil (stretch_text b.0.0) in
    subst (λ (y : Asked). IsRequest (3 ∷ bytes) y) g.1 (record { bytes_are = ap (λ (u : List ℕ). 3 ∷ u) all; fits = t.1 })

release_take : (bytes : List ℕ) (a : Asked) → IsBytes bytes → release_at bytes ≡ Some a → IsRequest (5 ∷ bytes) a
unfolding release_at spelled
release_take bytes a fits e =
    let b = bind_some (number_at w64 bytes) (λ n. whole (Releases n.0) n.1) a e in
    let t = number_takes w64 (2 ^ 64) wide64 bytes b.0.0 b.0.1 fits b.1 in
    let g = whole_take (Releases b.0.0) a b.0.1 b.2 in
    let all : bytes ≡ to_le_bytes w64 b.0.0 = t.0.parts ∙ ap (λ (u : List ℕ). to_le_bytes w64 b.0.0 ++ u) g.0 ∙ append-nil (to_le_bytes w64 b.0.0) in
    subst (λ (y : Asked). IsRequest (5 ∷ bytes) y) g.1 (record { bytes_are = ap (λ (u : List ℕ). 5 ∷ u) all; fits = t.1 })

between_takes : (bytes : List ℕ) (b : Between) (rest : List ℕ) → IsBytes bytes → between_at bytes ≡ Some (b, rest) → Takes bytes (between_text b) rest × FitsBetween b
unfolding between_at
between_takes bytes b rest fits e =
    let d = bind_some (text_at bytes) (λ f. optional_at f.1 >>= λ t. Some (record { from = f.0; to = t.0 }, t.1)) (b, rest) e in
    let f = bind_some (optional_at d.0.1) (λ t. Some (record { from = d.0.0; to = t.0 }, t.1)) (b, rest) d.2 in
    let t1 = text_takes bytes d.0.0 d.0.1 fits d.1 in
    let t2 = optional_takes d.0.1 f.0.0 f.0.1 t1.0.rest_fits f.1 in
    let both = Takes-then bytes (text d.0.0) d.0.1 (optional f.0.0) f.0.1 t1.0 t2.0 in
    let made : Between × List ℕ = (record { from = d.0.0; to = f.0.0 }, f.0.1) in
    subst (λ (y : Between × List ℕ). Takes bytes (between_text y.0) y.1 × FitsBetween y.0) (some_is made (b, rest) f.2) (both, (t1.1, t2.1))

range_take : (bytes : List ℕ) (a : Asked) → IsBytes bytes → (between_at bytes >>= λ b. whole (CompactsRange b.0) b.1) ≡ Some a → IsRequest (6 ∷ bytes) a
unfolding spelled
range_take bytes a fits e =
    let b = bind_some (between_at bytes) (λ b. whole (CompactsRange b.0) b.1) a e in
    let t = between_takes bytes b.0.0 b.0.1 fits b.1 in
    let g = whole_take (CompactsRange b.0.0) a b.0.1 b.2 in
    let all : bytes ≡ between_text b.0.0 = t.0.parts ∙ ap (λ (u : List ℕ). between_text b.0.0 ++ u) g.0 ∙ append-nil (between_text b.0.0) in
    subst (λ (y : Asked). IsRequest (6 ∷ bytes) y) g.1 (record { bytes_are = ap (λ (u : List ℕ). 6 ∷ u) all; fits = t.1 })

-- with nothing, or with keys
either_take : (bytes : List ℕ) (a : Asked) → IsBytes bytes → (b : Bool) → b ≡ eqb (length bytes) 0 → cond b (Some Compacts) (between_at bytes >>= λ k. whole (CompactsRange k.0) k.1) ≡ Some a → IsRequest (6 ∷ bytes) a
unfolding spelled
either_take bytes a fits true is e =
    subst (λ (y : Asked). IsRequest (6 ∷ bytes) y) (some_is Compacts a e) (record { bytes_are = ap (λ (t : List ℕ). 6 ∷ t) (nil_from_length bytes (eqb-true _ _ (sym is))); fits = tt })
either_take bytes a fits false is e = range_take bytes a fits e

compact_take : (bytes : List ℕ) (a : Asked) → IsBytes bytes → compact_at bytes ≡ Some a → IsRequest (6 ∷ bytes) a
unfolding compact_at
compact_take bytes a fits e = either_take bytes a fits (eqb (length bytes) 0) refl e

-- one form, or those after it
chosen : (k form : ℕ) (bytes : List ℕ) (a : Asked) (x y : Option Asked) → (x ≡ Some a → IsRequest (k ∷ bytes) a) → (y ≡ Some a → IsRequest (form ∷ bytes) a) → (b : Bool) → b ≡ eqb form k → cond b x y ≡ Some a → IsRequest (form ∷ bytes) a
chosen k form bytes a x y this others true is e = subst (λ (n : ℕ). IsRequest (n ∷ bytes) a) (sym (eqb-true form k (sym is))) (this e)
chosen k form bytes a x y this others false is e = others e

pub body_take : (form : ℕ) (bytes : List ℕ) (a : Asked) → IsBytes bytes → body_at form bytes ≡ Some a → IsRequest (form ∷ bytes) a
unfolding body_at spelled
body_take form bytes a fits =
    chosen 1 form bytes a _ _ (writes_take bytes a fits) (
    chosen 2 form bytes a _ _ (reads_take bytes a fits) (
    chosen 3 form bytes a _ _ (scan_take bytes a fits) (
    chosen 4 form bytes a _ _ (bare_take 4 Snapshots a bytes refl tt) (
    chosen 5 form bytes a _ _ (release_take bytes a fits) (
    chosen 6 form bytes a _ _ (compact_take bytes a fits) (
    chosen 7 form bytes a _ _ (bare_take 7 Collects a bytes refl tt) (
    chosen 8 form bytes a _ _ (bare_take 8 Statistics a bytes refl tt) (λ e. absurd cc)
    _ refl) _ refl) _ refl) _ refl) _ refl) _ refl) _ refl) _ refl

pub asked_take : (bytes : List ℕ) (a : Asked) → IsBytes bytes → asked_at bytes ≡ Some a → IsRequest bytes a
unfolding asked_at
asked_take [] a fits e = absurd cc
asked_take (form ∷ bytes) a fits e = body_take form bytes a (IsBytes-rest form bytes fits) e

-- ---- what is spelled so is read

stretch_again : (s : Stretch) (rest : List ℕ) → FitsStretch s → stretch_at (stretch_text s ++ rest) ≡ Some (s, rest)
unfolding stretch_at
stretch_again s rest fits =
    let w = when_text s.when in
    let f = text s.from in
    let t = optional s.to in
    let n = to_le_bytes w32 s.limit in
    let regrouped : stretch_text s ++ rest ≡ w ++ (f ++ (t ++ (n ++ rest))) = append_assoc w (f ++ (t ++ n)) rest ∙ ap (λ (u : List ℕ). w ++ u) (append_assoc f (t ++ n) rest ∙ ap (λ (u : List ℕ). f ++ u) (append_assoc t n rest)) in
    ap stretch_at regrouped ∙ rw (when_again s.when (f ++ (t ++ (n ++ rest))) fits.when, text_again s.from (t ++ (n ++ rest)) fits.from, optional_again s.to (n ++ rest) fits.to, number_again w32 (2 ^ 32) wide32 s.limit rest fits.limit) refl

between_again : (b : Between) (rest : List ℕ) → FitsBetween b → between_at (between_text b ++ rest) ≡ Some (b, rest)
unfolding between_at
between_again b rest fits =
    ap between_at (append_assoc (text b.from) (optional b.to) rest) ∙ rw (text_again b.from (optional b.to ++ rest) fits.0, optional_again b.to rest fits.1) refl

range_again : (b : Between) → FitsBetween b → compact_at (between_text b) ≡ Some (CompactsRange b)
unfolding compact_at
range_again b fits =
    let some : eqb (length (between_text b)) 0 ≡ false = ne_eqb (length (between_text b)) 0 (λ none. omega (arith, length-append (text b.from) (optional b.to), length-text b.from)) in
    let same : between_text b ≡ between_text b ++ [] = sym (append-nil (between_text b)) in
    rw some (ap (λ (t : List ℕ). between_at t >>= λ x. whole (CompactsRange x.0) x.1) same ∙ rw (between_again b [] fits) refl)

pub asked_again : (a : Asked) → Fits a → asked_at (spelled a) ≡ Some a
unfolding asked_at spelled body_at writes_at reads_at scan_at release_at compact_at
asked_again (Writes ws) fits = rw (some_again written_at written_text FitsWritten written_format ws fits) refl
asked_again (Reads when keys) fits = rw (when_again when (flat_map text keys) fits.0, some_again text_at text FitsText text_format keys fits.1) refl
asked_again (Scans s) fits =
    let same : stretch_text s ≡ stretch_text s ++ [] = sym (append-nil (stretch_text s)) in
    ap scan_at same ∙ rw (stretch_again s [] fits) refl
asked_again Snapshots fits = refl
asked_again (Releases n) fits =
    let same : to_le_bytes w64 n ≡ to_le_bytes w64 n ++ [] = sym (append-nil (to_le_bytes w64 n)) in
    ap release_at same ∙ ap (λ (r : Option (ℕ × List ℕ)). r >>= λ k. whole (Releases k.0) k.1) (number_again w64 (2 ^ 64) wide64 n [] fits)
asked_again Compacts fits = refl
asked_again (CompactsRange b) fits = range_again b fits
asked_again Collects fits = refl
asked_again Statistics fits = refl

pub request_read : (bytes : List ℕ) (a : Asked) → IsRequest bytes a → asked_at bytes ≡ Some a
request_read bytes a h = ap asked_at h.bytes_are ∙ asked_again a h.fits

pub same_request : (bytes : List ℕ) (a b : Asked) → IsRequest bytes a → IsRequest bytes b → a ≡ b
same_request bytes a b h k = some_is a b (sym (request_read bytes a h) ∙ request_read bytes b k)

-- ---- what the reader answers

pub found_by : {X : Type 0} (see : X → Asked) (bytes : List ℕ) (x : X) → IsBytes bytes → Some (see x) ≡ asked_at bytes → IsRequest bytes (see x)
found_by see bytes x fits e = asked_take bytes (see x) fits (sym e)

pub never : (bytes : List ℕ) (asked : Asked) → None ≡ asked_at bytes → IsRequest bytes asked → ⊥
never bytes asked e h = let no : ◌≡◌ {A = Option Asked} None (Some asked) = e ∙ request_read bytes asked h in cc

pub just : (bytes : List ℕ) (x asked : Asked) → Some x ≡ asked_at bytes → IsRequest bytes asked → x ≡ asked
just bytes x asked e h = some_is x asked (e ∙ request_read bytes asked h)
