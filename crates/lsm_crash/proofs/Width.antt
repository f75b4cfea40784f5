-- A disk is as wide as its rule says: instances of all that a crash may leave.
use Rattle.std.proofs.Common.{◌≡◌, ℕ, ◌+◌, ◌≤◌, List, [], ◌∷◌, ◌++◌, length, take, refl, sym, ◌∙◌}
use Rattle.std.proofs.Common.{ap, subst, inl, inr, arith, Some, None, zero-add, cond}
use Rattle.std.specs.Prelude.{Option, Ok}
use Rattle.std.specs.Str.{bytes_eq}
use Rattle.std.proofs.lemmas.Bool.{cases_Bool}
use Rattle.std.proofs.lemmas.List.{length-append, length-take-le, take_all, take_at}
use Rattle.std.proofs.lemmas.Slice.Eq.{bytes_eq-Decides}
use Rattle.lsm_codec.specs.Lists.{Has}
use Rattle.lsm_folder.specs.Calls.{appended, made, renamed, removed, wrote}
use Rattle.lsm_storage.specs.FileNames.{current_text, manifest_name, temporary_name}
use Rattle.lsm_crash.specs.Disk.{Disk, Names, Shows, Step, filled, moved, named, set, with_file, with_names, without}
use Rattle.lsm_crash.specs.Crash.{IsFileLeft, IsFileSpoilt, IsLeft, IsSpoilt, MayFind, MayFindBoth, front_of, mixed, rest_of, spoilt}
use Rattle.lsm_crash.specs.Versions.{Tables}
use Rattle.lsm_crash.specs.Known.{Is, IsSettled, IsSound, Stands, World, current_name}
use Rattle.lsm_crash.specs.Among.{DoneAmong}
use Rattle.lsm_crash.proofs.Names.{manifest_current}
use Rattle.lsm_crash.proofs.Disks.{along, named_at, named_else, set_at, set_else, some_is}
use Rattle.lsm_crash.proofs.Standing.{stands_shows, sure, take_past}
use Rattle.lsm_crash.proofs.Calls.{no_gap}

front_left : (d : Disk) (fronts : ℕ → ℕ) (o : Option ℕ) → ((i : ℕ) → d.kept i ≤ fronts i) → IsFileLeft d o (front_of d fronts o)
front_left d fronts None above = tt
front_left d fronts (Some i) above = (fronts i, above i, refl)

pub mixed_left : (d : Disk) (moments : List ℕ → Names) (fronts : ℕ → ℕ) → ((name : List ℕ) → Has d.past (moments name)) → ((i : ℕ) → d.kept i ≤ fronts i) → IsLeft d (mixed d moments fronts)
mixed_left d moments fronts past above = record { each = λ name. (moments name name, (moments name, past name, refl), front_left d fronts (moments name name) above) }

rest_left : (d : Disk) (garbage : ℕ → List ℕ) (o : Option ℕ) → ((i : ℕ) → d.kept i + length (garbage i) ≤ length (d.bytes i)) → IsFileSpoilt d o (rest_of d garbage o)
rest_left d garbage None fits = tt
rest_left d garbage (Some i) fits =
    let front = take (d.kept i) (d.bytes i) in
    let f = fits i in
    let kept : length front ≡ d.kept i = length-take-le (d.kept i) (d.bytes i) (omega arith) in
    let all : length (front ++ garbage i) ≡ length front + length (garbage i) = length-append front (garbage i) in
    (omega arith, omega arith, take_at front (garbage i) (d.kept i) kept)

pub spoilt_left : (d : Disk) (moments : List ℕ → Names) (garbage : ℕ → List ℕ) → ((name : List ℕ) → Has d.past (moments name)) → ((i : ℕ) → d.kept i + length (garbage i) ≤ length (d.bytes i)) → IsSpoilt d (spoilt d moments garbage)
spoilt_left d moments garbage past fits = record { each = λ name. (moments name name, (moments name, past name, refl), rest_left d garbage (moments name name) fits) }

-- ---- all names as they were at one moment, all files whole

whole : Disk → ℕ → ℕ
whole d i = d.kept i + length (d.bytes i)

whole_left : (d : Disk) (moments : List ℕ → Names) → ((name : List ℕ) → Has d.past (moments name)) → IsLeft d (mixed d moments (whole d))
unfolding whole
whole_left d moments past = mixed_left d moments (whole d) past (λ i. omega arith)

front_some : (d : Disk) (fronts : ℕ → ℕ) (o : Option ℕ) (i : ℕ) → o ≡ Some i → front_of d fronts o ≡ Some (take (fronts i) (d.bytes i))
front_some d fronts o i is = ap (front_of d fronts) is

whole_some : (d : Disk) (o : Option ℕ) (i : ℕ) (bytes : List ℕ) → o ≡ Some i → d.bytes i ≡ bytes → front_of d (whole d) o ≡ Some bytes
unfolding whole
whole_some d o i bytes is b = front_some d (whole d) o i is ∙ (ap Some (take_all (whole d i) (d.bytes i) (omega arith)) ∙ ap Some b)

whole_none : (d : Disk) (o : Option ℕ) → o ≡ None → front_of d (whole d) o ≡ None
whole_none d o is = ap (front_of d (whole d)) is

find_none : (d : Disk) (names : Names) (name : List ℕ) → Has d.past names → names name ≡ None → MayFind d name None
find_none d names name past none = (mixed d (λ q. names) (whole d), whole_left d (λ q. names) (λ q. past), whole_none d (names name) none)

find_whole : (d : Disk) (names : Names) (name : List ℕ) (i : ℕ) (bytes : List ℕ) → Has d.past names → names name ≡ Some i → d.bytes i ≡ bytes → MayFind d name (Some bytes)
find_whole d names name i bytes past is b = (mixed d (λ q. names) (whole d), whole_left d (λ q. names) (λ q. past), whole_some d (names name) i bytes is b)

-- a beginning of a length that is chosen, of one file that has so many durable bytes
find_front : (d : Disk) (names : Names) (name : List ℕ) (i : ℕ) (k : ℕ) → Has d.past names → names name ≡ Some i → MayFind d name (Some (take (d.kept i + k) (d.bytes i)))
find_front d names name i k past is =
    let fronts : ℕ → ℕ = λ j. d.kept j + k in
    (mixed d (λ q. names) fronts, mixed_left d (λ q. names) fronts (λ q. past) (λ j. omega arith), front_some d fronts (names name) i is)

-- of a file none of whose bytes is durable
find_begun : (d : Disk) (names : Names) (name : List ℕ) (i : ℕ) (bytes : List ℕ) (k : ℕ) → Has d.past names → names name ≡ Some i → d.bytes i ≡ bytes → d.kept i ≡ 0 → MayFind d name (Some (take k bytes))
find_begun d names name i bytes k past is b none =
    let r = find_front d names name i k past is in
    (r.0, r.1, r.2 ∙ (ap (λ n. Some (take (n + k) (d.bytes i))) none ∙ (ap (λ n. Some (take n (d.bytes i))) (zero-add k) ∙ ap (λ c. Some (take k c)) b)))

-- ---- what each call may leave

pub made_may : (d e : Disk) (name bytes : List ℕ) (k : ℕ) → IsSound d → Step d (made name bytes (Ok tt)) e → MayFind e name None × MayFind e name (Some (take k bytes))
made_may d e name bytes k s (none, is) = along (λ x. MayFind x name None × MayFind x name (Some (take k bytes))) _ e is (
  find_none (with_file name bytes d) d.names name (inr s.now) none,
  find_begun (with_file name bytes d) (named d.names name (Some d.next)) name d.next bytes k (inl refl) (named_at d.names name (Some d.next)) (set_at d.bytes d.next bytes) (set_at d.kept d.next 0),
)

pub removed_may : (d e : Disk) (name bytes : List ℕ) → IsSound d → Shows d name bytes → Step d (removed name (Ok tt)) e → MayFind e name None × MayFind e name (Some bytes)
removed_may d e name bytes s (i, at, b) is = along (λ x. MayFind x name None × MayFind x name (Some bytes)) _ e is (
  find_none (without name d) (named d.names name None) name (inl refl) (named_at d.names name None),
  find_whole (without name d) d.names name i bytes (inr s.now) at b,
)

pub appended_may : (d e : Disk) (name old bytes : List ℕ) (k : ℕ) → IsSound d → Stands d name old → Step d (appended name bytes (Ok tt)) e → MayFind e name (Some (old ++ take k bytes))
appended_may d e name old bytes k s (one, H) (i, at, is) =
    let now = sure (Is one old) d name H (d.names name) (d.names, s.now, refl) in
    let same : now.0 ≡ i = some_is now.0 i (sym now.1 ∙ at) in
    let were : d.bytes i ≡ old = ap d.bytes (sym same) ∙ now.4.1 in
    let kept : d.kept i ≡ length old = ap d.kept (sym same) ∙ now.4.2 in
    let x = filled i (d.bytes i ++ bytes) (d.kept i) d in
    let more : x.bytes i ≡ old ++ bytes = set_at d.bytes i (d.bytes i ++ bytes) ∙ ap (λ b. b ++ bytes) were in
    let durable : x.kept i ≡ length old = set_at d.kept i (d.kept i) ∙ kept in
    let r = find_front x d.names name i k s.now at in
    along (λ y. MayFind y name (Some (old ++ take k bytes))) x e is
    (r.0, r.1, r.2 ∙ (ap (λ n. Some (take (n + k) (x.bytes i))) durable ∙ (ap (λ b. Some (take (length old + k) b)) more ∙ ap Some (take_past old bytes k))))

-- a file that is written anew: as if the name had got another, or emptied, or taken away first
pub wrote_may : (d : Disk) (name old bytes : List ℕ) (k : ℕ) → IsSound d → Shows d name old
    → ((e : Disk) × Step d (wrote name bytes (Ok tt)) e × MayFind e name (Some old)) × ((e : Disk) × Step d (wrote name bytes (Ok tt)) e × MayFind e name None)
    × ((e : Disk) × Step d (wrote name bytes (Ok tt)) e × MayFind e name (Some (take k bytes)))
wrote_may d name old bytes k s (i, at, b) =
    let other = with_file name bytes d in
    let fresh = with_file name bytes (without name d) in
    let emptied = filled i bytes 0 d in
    let lt = s.below name i at in
    let apart : i ≡ d.next → ⊥ = λ e. absurd (omega arith) in (
      (other, inl refl, find_whole other d.names name i old (inr s.now) at (kept_bytes apart ∙ b)),
      (fresh, inr (inr refl), find_none fresh (named d.names name None) name (inr (inl refl)) (named_at d.names name None)),
      (emptied, inr (inl (i, at, refl)), find_begun emptied d.names name i bytes k s.now at (set_at d.bytes i bytes) (set_at d.kept i 0)),
    )
  where
    kept_bytes : (i ≡ d.next → ⊥) → set d.bytes d.next bytes i ≡ d.bytes i
    kept_bytes apart = set_else d.bytes d.next bytes i apart

-- ---- a rename: each name for itself

choice : List ℕ → Names → Names → List ℕ → Names
choice q one other name = cond (bytes_eq name q) one other

choice_in : (d : Disk) (q : List ℕ) (one other : Names) → Has d.past one → Has d.past other → (name : List ℕ) → Has d.past (choice q one other name)
unfolding choice
choice_in d q one other a b name = elim (cases_Bool (bytes_eq name q)) [
  | inl t ↦ subst (λ c. Has d.past (cond c one other)) (sym t) a
  | inr f ↦ subst (λ c. Has d.past (cond c one other)) (sym f) b
]

choice_at : (q : List ℕ) (one other : Names) → choice q one other q ≡ one
unfolding choice
choice_at q one other = ap (λ c. cond c one other) ((bytes_eq-Decides q q).1 refl)

choice_else : (q : List ℕ) (one other : Names) (name : List ℕ) → (name ≡ q → ⊥) → choice q one other name ≡ other
unfolding choice
choice_else q one other name apart = elim (cases_Bool (bytes_eq name q)) [
  | inl t ↦ absurd (apart ((bytes_eq-Decides name q).0 t))
  | inr f ↦ ap (λ c. cond c one other) f
]

-- the first name as it was at one moment, the second as at another
find_both : (d : Disk) (p q : List ℕ) (one other : Names) (of_p of_q : Option (List ℕ)) → (p ≡ q → ⊥) → Has d.past one → Has d.past other → front_of d (whole d) (one p) ≡ of_p → front_of d (whole d) (other q) ≡ of_q
    → MayFindBoth d p q of_p of_q
find_both d p q one other of_p of_q apart a b at_p at_q = (
  mixed d (choice p one other) (whole d),
  whole_left d (choice p one other) (choice_in d p one other a b),
  ap (λ (f : Names). front_of d (whole d) (f p)) (choice_at p one other) ∙ at_p,
  ap (λ (f : Names). front_of d (whole d) (f q)) (choice_else p one other q (λ e. apart (sym e))) ∙ at_q,
)

pub renamed_may : (d e : Disk) (from to bytes old : List ℕ) → IsSound d → (from ≡ to → ⊥) → Shows d from bytes → Shows d to old → Step d (renamed from to (Ok tt)) e
    → MayFindBoth e from to (Some bytes) (Some old) × MayFindBoth e from to (Some bytes) (Some bytes) × MayFindBoth e from to None (Some old) × MayFindBoth e from to None (Some bytes)
renamed_may d e from to bytes old s apart (i, at, b) (j, there, c) (h, moves, is) =
    let same : i ≡ h = some_is i h (sym at ∙ moves) in
    let new = moved d.names from to h in
    let x = with_names new d in
    let gone : front_of x (whole x) (new from) ≡ None = whole_none x (new from) (named_at (named d.names to (Some h)) from None) in
    let came : front_of x (whole x) (new to) ≡ Some bytes = whole_some x (new to) h bytes
    (named_else (named d.names to (Some h)) from None to apart ∙ named_at d.names to (Some h)) (ap d.bytes (sym same) ∙ b) in
    let was_from : front_of x (whole x) (d.names from) ≡ Some bytes = whole_some x (d.names from) i bytes at b in
    let was_to : front_of x (whole x) (d.names to) ≡ Some old = whole_some x (d.names to) j old there c in
    along (λ y. MayFindBoth y from to (Some bytes) (Some old) × MayFindBoth y from to (Some bytes) (Some bytes) × MayFindBoth y from to None (Some old) × MayFindBoth y from to None (Some bytes)) x e is (
      find_both x from to d.names d.names (Some bytes) (Some old) apart (inr s.now) (inr s.now) was_from was_to,
      find_both x from to d.names new (Some bytes) (Some bytes) apart (inr s.now) (inl refl) was_from came,
      find_both x from to new d.names None (Some old) apart (inl refl) (inr s.now) gone was_to,
      find_both x from to new new None (Some bytes) apart (inl refl) (inl refl) gone came,
    )

-- ---- a manifest that is removed before the rename is durable

pub dropped_early : (tables : Tables) (w : World) (number : ℕ) (d : Disk) → IsSettled d w
    → Shows d (temporary_name number) (current_text number)
    → (e : Disk)
    × DoneAmong tables
    (renamed (temporary_name number) current_name ∷ removed (manifest_name w.manifest) ∷ []) d e
    × MayFindBoth e current_name (manifest_name w.manifest)
    (Some (current_text w.manifest)) None
dropped_early tables w number d s (i, at, b) =
    let T = temporary_name number in
    let M = manifest_name w.manifest in
    let text = current_text w.manifest in
    let was = stands_shows d current_name text s.sound s.current in
    let d1 = with_names (moved d.names T current_name i) d in
    let d2 = without M d1 in (
      d2,
      (
        d,
        no_gap tables d,
        (d1, (i, at, refl), (d1, no_gap tables d1, (d2, refl, no_gap tables d2))),
      ),
      find_both d2 current_name M d.names d2.names (Some text) None
          (λ e. manifest_current w.manifest (sym e)) (inr (inr s.sound.now)) (inl refl)
          (whole_some d2 (d.names current_name) was.0 text was.1 was.2)
          (whole_none d2 (d2.names M) (named_at d1.names M None)),
    )
