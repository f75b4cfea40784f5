-- Lives of a database one after another, each of which a crash ends.
use Rattle.std.proofs.Common.{◌≡◌, ℕ, List, [], ◌∷◌, ◌++◌, length, refl, sym, ◌∙◌, subst, inl, inr, ◌⊎◌, Some, None}
use Rattle.std.specs.Prelude.{Option}
use Rattle.atomic_table.specs.Seated.{TableId}
use Rattle.lsm_codec.specs.Entries.{Entry}
use Rattle.lsm_storage.specs.FileNames.{current_text}
use Rattle.lsm_version.specs.Versions.{IsSound, Levels, no_levels}
use Rattle.lsm_state.specs.Held.{Held}
use Rattle.lsm_crash.specs.Disk.{Disk}
use Rattle.lsm_crash.specs.Crash.{Found, IsLeft}
use Rattle.lsm_crash.specs.Known.{IsHeld, IsSettled, IsVacant, Known, World, known_of}
use Rattle.lsm_crash.specs.Operations.{Start}
use Rattle.lsm_crash.specs.History.{IsRead}
use Rattle.lsm_crash.specs.States.{Finds, IsWorldOf, Shown}
use Rattle.lsm_crash.specs.Database.{Answered, IsState, Opens}
use Rattle.lsm_crash.specs.Lives.{Ages, AllLeave, Answers, Begins, BeginsCut, Closed, Crashed, FromNothing, Life, LivedFrom, Makes, MakesCut, MayLeave, Struck, Unopened, Worked, brought}
use Rattle.lsm_crash.proofs.Held.{fresh_vacant, settled_held}
use Rattle.lsm_crash.proofs.Histories.{crashed, not_both}
use Rattle.lsm_crash.proofs.Runs.{cut_held}
use Rattle.lsm_crash.proofs.Worlds.{TablesChange}
use Rattle.lsm_crash.proofs.Turning.{cut_known, cut_leaves, describes, settled_finds, works_keep}
use Rattle.lsm_crash.proofs.Opening.{opening_allowed, opening_cut, opening_done, opening_finds, opening_settled, opening_world}
use Rattle.lsm_crash.proofs.Making.{made_finds, made_held, made_settled, made_world, making_cut, making_done, no_tables}
use Rattle.lsm_crash.proofs.Found.{found_shown, opened_last, opened_same, settled_shown}
use Rattle.lsm_crash.proofs.Soundness.{WholeTables, deed_whole, sound_state, works_whole}
use Rattle.lsm_crash.proofs.Answering.{ReadsAll, deed_reads, made_answers, same_answers, works_read}
use Rattle.lsm_journal.specs.declared.manifest_limit.ManifestLimit.{ManifestLimit}

-- what holds of a folder that may be opened
pub record IsBorn (given honest : Type 0) (v : Levels) (es : List Entry) (w : World) (d : Disk) :
    Type 0 where
  pub settled : IsSettled d w
  pub shown : Shown v d
  pub seven : length v.tables ≡ 7
  pub answers : honest → Answers v es
  pub sound : given → honest → IsSound v

-- what a life leaves
record IsDead (given honest : Type 0) (life : Life) (es : List Entry) (u : World) (e : Disk) : Type 0 where
  pub version : Levels
  pub entries : List Entry
  pub may : MayLeave life es version entries
  pub born : IsBorn given honest version entries u e

-- a state with which a life begins
record IsBegun (honest : Type 0) (board : TableId) (es : List Entry) (h : Held) (x : World) (m : Disk) : Type 0 where
  pub settled : IsSettled m x
  pub world : IsWorldOf h x
  pub state : IsState honest board h
  pub reads : honest → Answers h.slots.version es
  pub whole : honest → WholeTables h.slots.version

-- one whose beginning was cut
record IsStopped (honest : Type 0) (board : TableId) (es : List Entry) (h : Held) (known : Known) (m : Disk) : Type 0 where
  pub held : IsHeld m known
  pub finds : (found : Found) (u : World) → IsLeft m found → IsRead known found u → Finds h.slots.version found
  pub state : IsState honest board h
  pub reads : honest → Answers h.slots.version es
  pub whole : honest → WholeTables h.slots.version

-- after a crash
reborn : (given honest : Type 0) (known : Known) (d e : Disk) (u : World) (v : Levels) (es : List Entry) → IsHeld d known → (c : Crashed known d u e) → Finds v c.0 → length v.tables ≡ 7 → (honest → Answers v es) → (honest → IsSound v) → IsBorn given honest v es u e
reborn given honest known d e u v es held c f seven a sound = record { settled = crashed d e known c.0 u held c.1 c.2 c.3; shown = found_shown v c.0 e f c.2; seven = seven; answers = a; sound = λ k. sound }

module _ (given : Type 0) (law : TablesChange) (honest : Type 0) (all : ReadsAll honest) (board : TableId) (es : List Entry) (Begun : Held → World → Disk → Type 0) (Cut : Held → Known → Disk → Type 0)
    (begun : (h : Held) (x : World) (m : Disk) → Begun h x m → IsBegun honest board es h x m) (cut : (h : Held) (known : Known) (m : Disk) → Cut h known m → IsStopped honest board es h known m) where
  life_leaves : (life : Life) (u : World) (e : Disk) → LivedFrom honest board Begun Cut life u e → IsDead given honest life es u e
  life_leaves (Closed h now turns) u e l =
      let s = begun h l.0 l.1 l.2 in
      let r = works_keep law honest board turns h now l.0 u l.1 e s.state s.settled s.world l.3 in
      record {
        version = now.slots.version;
        entries = brought turns ++ es;
        may = (refl, refl);
        born = record {
          settled = r.0;
          shown = settled_shown now.slots.version u e r.0 (describes honest board now u r.2.0 r.1 r.0.comes) r.1.tables;
          seven = r.2.0.journaled.1.own.seven;
          answers = λ fair. works_read honest all board fair turns h now l.0 u l.1 e es s.state l.3 (s.reads fair);
          sound = λ k fair. sound_state honest board now fair r.2 (works_whole law honest board fair turns h now l.0 u l.1 e s.state s.settled s.world l.3 (s.whole fair));
        };
      }
  life_leaves (Worked h now turns) u e l =
      let s = begun h l.0 l.2 l.4 in
      let r = works_keep law honest board turns h now l.0 l.1 l.2 l.3 s.state s.settled s.world l.5 in
      record {
        version = now.slots.version;
        entries = brought turns ++ es;
        may = (refl, refl);
        born = reborn given honest (known_of l.1) l.3 e u now.slots.version (brought turns ++ es) (settled_held l.3 l.1 r.0) l.6
            (settled_finds l.3 now l.1 l.6.0 r.0 r.1 (describes honest board now l.1 r.2.0 r.1 r.0.comes) l.6.1) r.2.0.journaled.1.own.seven
            (λ fair. works_read honest all board fair turns h now l.0 l.1 l.2 l.3 es s.state l.5 (s.reads fair))
            (λ fair. sound_state honest board now fair r.2 (works_whole law honest board fair turns h now l.0 l.1 l.2 l.3 s.state s.settled s.world l.5 (s.whole fair)));
      }
  life_leaves (Struck h now new turns deed) u e l =
      let s = begun h l.0 l.2 l.6 in
      let r = works_keep law honest board turns h now l.0 l.1 l.2 l.3 s.state s.settled s.world l.7 in
      let held = (cut_known law honest board now new deed l.1 l.4 l.3 l.5 r.2 r.0 r.1 l.8).0 in
      let reads : honest → Answers now.slots.version (brought turns ++ es) = λ fair. works_read honest all board fair turns h now l.0 l.1 l.2 l.3 es s.state l.7 (s.reads fair) in
      let whole : honest → WholeTables now.slots.version = λ fair. works_whole law honest board fair turns h now l.0 l.1 l.2 l.3 s.state s.settled s.world l.7 (s.whole fair) in
      elim (cut_leaves law honest board now new deed l.1 l.4 l.3 l.5 l.9.0 r.2 r.0 r.1 l.8 l.9.1) [
        | inl f ↦ record {
          version = now.slots.version;
          entries = brought turns ++ es;
          may = inl (refl, refl);
          born = reborn given honest l.4 l.5 e u now.slots.version (brought turns ++ es) held l.9 f r.2.0.journaled.1.own.seven reads (λ fair. sound_state honest board now fair r.2 (whole fair));
        }
        | inr f ↦ record {
          version = new.slots.version;
          entries = brought (Answered deed ∷ []) ++ (brought turns ++ es);
          may = inr (refl, refl);
          born = reborn given honest l.4 l.5 e u new.slots.version (brought (Answered deed ∷ []) ++ (brought turns ++ es)) held l.9 f l.8.2.0.journaled.1.own.seven
              (λ fair. deed_reads honest all board fair now new deed l.8.1 (brought turns ++ es) r.2 l.8.3 l.8.6 (reads fair))
              (λ fair. sound_state honest board new fair l.8.2 (deed_whole law honest board fair now new deed l.8.1 l.1 r.2 l.8.2 l.8.3 l.8.4 (whole fair)));
        }
      ]
  life_leaves (Unopened h) u e l =
      let s = cut h l.0 l.1 l.2 in
      record {
        version = h.slots.version;
        entries = es;
        may = (refl, refl);
        born = reborn given honest l.0 l.1 e u h.slots.version es s.held l.3 (s.finds l.3.0 u l.3.1 l.3.3) s.state.0.journaled.1.own.seven s.reads (λ fair. sound_state honest board h fair s.state (s.whole fair));
      }

-- ---- a life that begins with an opening

module _ (given honest : Type 0) (board : TableId) (limit : ManifestLimit) (v : Levels) (es : List Entry) (w : World) (d : Disk) (b : IsBorn given honest v es w d) where
  -- the version that was opened reads as the one that was shown
  opened_reads : (h : Held) → IsState honest board h → Opens honest limit h d → honest → Answers h.slots.version es
  opened_reads h l p fair = same_answers v h.slots.version es (l.0.law.meaning fair).lawful
      (λ F k. (opened_same honest limit h d v b.shown p b.seven F).0 k) (λ F k. (opened_same honest limit h d v b.shown p b.seven F).1 k)
      (opened_last honest limit h d v b.shown p b.seven) (b.answers fair)

  -- what is opened is sound
  opened_whole : (h : Held) → Opens honest limit h d → honest → WholeTables h.slots.version
  opened_whole h p fair = (p.begun.found.loaded.sound fair).tables

  opens : (h : Held) (x : World) (m : Disk) → Begins honest board limit h w x d m → IsBegun honest board es h x m
  opens h x m l = record {
    settled = subst (λ y. IsSettled m y) (sym l.7) (opening_settled honest board limit h d w l.0 l.2.0 b.settled l.3 l.5 m (opening_done honest limit h d l.3 l.1 l.4 w.tables m l.6));
    world = subst (λ y. IsWorldOf h y) (sym l.7) (opening_world honest board limit h d w l.0 l.2.0 b.settled l.3 l.5);
    state = l.2;
    reads = opened_reads h l.2 l.3;
    whole = opened_whole h l.3;
  }

  opens_cut : (h : Held) (known : Known) (m : Disk) → BeginsCut honest board limit h w known d m → IsStopped honest board es h known m
  opens_cut h known m l =
      let cut = opening_cut honest limit h d l.3 l.1 l.4 w.tables m l.6 in
      let o = Start h.journal.number h.journal.bytes l.0 in
      record {
        held = subst (λ k. IsHeld m k) (sym l.7) (cut_held d m w o b.settled (opening_allowed honest board limit h d w l.0 l.2.0 b.settled l.3 l.5) cut);
        finds = λ found u left read. opening_finds honest board limit h d w l.0 l.2.0 b.settled l.3 l.5 m found cut left;
        state = l.2;
        reads = opened_reads h l.2 l.3;
        whole = opened_whole h l.3;
      }

-- ---- one that begins with the making of the database

module _ (honest : Type 0) (board : TableId) (d : Disk) (vacant : IsVacant d) where
  makes : (h : Held) (x : World) (m : Disk) → Makes honest board h x d m → IsBegun honest board [] h x m
  makes h x m l = record {
    settled = subst (λ y. IsSettled m y) (sym l.7) (made_settled honest board h l.0 l.2.0 l.3 l.5 d m vacant (making_done h l.3 l.1 l.4 d m l.6));
    world = subst (λ y. IsWorldOf h y) (sym l.7) (made_world honest board h l.0 l.2.0 l.3 l.5);
    state = l.2;
    reads = λ fair. made_answers h l.3;
    whole = λ fair level t k. absurd (no_tables honest board h l.0 l.2.0 l.3 l.5 level t k);
  }

  makes_cut : (h : Held) (known : Known) (m : Disk) → MakesCut honest board h known d m → IsStopped honest board [] h known m
  makes_cut h known m l =
      let cut = making_cut h l.3 l.1 l.4 d m l.6 in
      record {
        held = subst (λ k. IsHeld m k) (sym l.7) (made_held honest board h l.0 l.2.0 l.3 l.5 d m vacant cut);
        finds = λ found u left read. elim (made_finds honest board h l.0 l.2.0 l.3 l.5 d m found vacant cut left) [
          | inl none ↦ absurd (not_both (current_text u.manifest) (sym none ∙ read.current))
          | inr f ↦ f
        ];
        state = l.2;
        reads = λ fair. made_answers h l.3;
        whole = λ fair level t k. absurd (no_tables honest board h l.0 l.2.0 l.3 l.5 level t k);
      }

-- ---- many lives

module _ (given : Type 0) (law : TablesChange) (honest : Type 0) (all : ReadsAll honest) where
  pub ages_born : (lives : List Life) (v : Levels) (es : List Entry) (w u : World) (d e : Disk)
      → IsBorn given honest v es w d → Ages honest lives w d u e
      → (x : Levels) × (fs : List Entry) × AllLeave lives v es x fs × IsBorn given honest x fs u e
  ages_born [] v es w u d e b h = (v, es, (refl, refl), subst (λ y. IsBorn given honest v es u y) (sym h.1) (subst (λ y. IsBorn given honest v es y d) (sym h.0) b))
  ages_born (life ∷ lives) v es w u d e b h =
      let x = life_leaves given law honest all h.0 es (λ t y m. Begins honest h.0 h.1 t w y d m) (λ t known m. BeginsCut honest h.0 h.1 t w known d m) (opens given honest h.0 h.1 v es w d b) (opens_cut given honest h.0 h.1 v es w d b) life h.2 h.3 h.4 in
      let r = ages_born lives x.version x.entries h.2 u h.3 e x.born h.5 in
      (r.0, r.1, (x.version, x.entries, x.may, r.2), r.3)

  ages_leave : (lives : List Life) (v : Levels) (es : List Entry) (w u : World) (d e : Disk) → IsBorn given honest v es w d → Ages honest lives w d u e
      → IsSettled e u × ((x : Levels) × (fs : List Entry) × AllLeave lives v es x fs × Shown x e × (honest → Answers x fs) × (given → honest → IsSound x))
  ages_leave lives v es w u d e b h = (let r = ages_born lives v es w u d e b h in (r.3.settled, (r.0, r.1, r.2, r.3.shown, r.3.answers, r.3.sound)))

pub ages_sound : (law : TablesChange) (honest : Type 0) (all : ReadsAll honest) (lives : List Life) (v : Levels) (es : List Entry) (w u : World) (d e : Disk) → IsSettled d w → Shown v d → length v.tables ≡ 7 → (honest → Answers v es) → (honest → IsSound v) → Ages honest lives w d u e
    → (x : Levels) × (fs : List Entry) × AllLeave lives v es x fs × Shown x e × (honest → Answers x fs) × (honest → IsSound x)
ages_sound law honest all lives v es w u d e i f seven a sound h =
    let r = ages_leave (honest → IsSound v) law honest all lives v es w u d e record { settled = i; shown = f; seven = seven; answers = a; sound = λ k. k } h in
    (r.1.0, r.1.1, r.1.2, r.1.3, r.1.4, r.1.5 sound)

pub ages_keep : (law : TablesChange) (honest : Type 0) (all : ReadsAll honest) (lives : List Life) (v : Levels) (es : List Entry) (w u : World) (d e : Disk) → IsSettled d w → Shown v d → length v.tables ≡ 7 → (honest → Answers v es) → Ages honest lives w d u e
    → IsSettled e u × ((x : Levels) × (fs : List Entry) × AllLeave lives v es x fs × Shown x e × (honest → Answers x fs))
ages_keep law honest all lives v es w u d e i f seven a h =
    let r = ages_leave (honest → IsSound v) law honest all lives v es w u d e record { settled = i; shown = f; seven = seven; answers = a; sound = λ k. k } h in
    (r.0, (r.1.0, r.1.1, r.1.2, r.1.3, r.1.4))

-- ---- from a folder without a database

-- there is none, or it shows all that came in
abbrev pub IsLeftOf : Type 0 → List Life → Option World → Disk → Type 0
IsLeftOf honest lives o e = ((o ≡ None) × (lives ≡ []) × IsVacant e) ⊎ ((u : World) × (o ≡ Some u) × IsSettled e u × ((x : Levels) × (fs : List Entry) × AllLeave lives no_levels [] x fs × Shown x e × (honest → Answers x fs) × (honest → IsSound x)))

-- the same, with all that holds of the folder
abbrev pub IsBornOf : Type 0 → List Life → Option World → Disk → Type 0
IsBornOf honest lives o e =
    ((o ≡ None) × (lives ≡ []) × IsVacant e) ⊎ ((u : World) × (o ≡ Some u) × (x : Levels) ×
    (fs : List Entry) × AllLeave lives no_levels [] x fs × IsBorn (Unit {0}) honest x fs u e)

pub nothing_born : (law : TablesChange) (honest : Type 0) (all : ReadsAll honest)
    (tries : List Held) (lives : List Life) (d e : Disk) (o : Option World) → IsVacant d →
    FromNothing honest tries lives d o e → IsBornOf honest lives o e
nothing_born law honest all [] [] d e o vacant h = inl (h.0, refl, subst IsVacant (sym h.1) vacant)
nothing_born law honest all [] (life ∷ lives) d e o vacant h =
    let given = Unit {0} in
    let x = life_leaves given law honest all h.0 [] (λ t y m. Makes honest h.0 t y d m) (λ t known m. MakesCut honest h.0 t known d m) (makes honest h.0 d vacant) (makes_cut honest h.0 d vacant) life h.1 h.2 h.4 in
    let r = ages_born given law honest all lives x.version x.entries h.1 h.3 h.2 e x.born h.5 in
    inr (h.3, h.6, r.0, r.1, (x.version, x.entries, x.may, r.2), r.3)
nothing_born law honest all (h ∷ tries) lives d e o vacant l = nothing_born law honest all tries
    lives l.3 e o (fresh_vacant l.5.0 l.3 l.5.3 l.5.2) l.6

pub from_nothing : (law : TablesChange) (honest : Type 0) (all : ReadsAll honest)
    (tries : List Held) (lives : List Life) (d e : Disk) (o : Option World) → IsVacant d →
    FromNothing honest tries lives d o e → IsLeftOf honest lives o e
from_nothing law honest all tries lives d e o vacant h =
    elim (nothing_born law honest all tries lives d e o vacant h) [
      | inl none ↦ inl none
      | inr r ↦ inr (r.0, r.1, r.5.settled, (r.2, r.3, r.4, r.5.shown, r.5.answers, r.5.sound tt))
    ]
