-- Calls of a database one after another, refused ones among them, and cut by a crash.
use Rattle.std.proofs.Common.{◌≡◌, ℕ, ◌<◌, ◌^◌, false, List, [], ◌∷◌, map, refl, sym, ◌∙◌, ap, subst, inl, inr, ◌⊎◌, arith}
use Rattle.atomic_table.specs.Seated.{TableId}
use Rattle.lsm_codec.specs.Lists.{Has}
use Rattle.lsm_shelf.specs.Asked.{Asked}
use Rattle.lsm_shelf.specs.Asked as shelf
use Rattle.lsm_table.specs.Registry.{Table}
use Rattle.lsm_version.specs.Versions.{Levels, level_in}
use Rattle.lsm_live.specs.Booked.{live_of}
use Rattle.lsm_live.proofs.CallerLemmas.{live_has}
use Rattle.lsm_state.specs.Held.{Held, IsLawfulState}
use Rattle.lsm_crash.specs.Disk.{Disk}
use Rattle.lsm_crash.specs.Crash.{Found, IsLeft}
use Rattle.lsm_crash.specs.Versions.{ComesTo, Tables, Version}
use Rattle.lsm_crash.specs.Known.{IsHeld, IsSettled, Known, Recovers, World, known_of}
use Rattle.lsm_crash.specs.Operations.{Operation, Put, Remove, after, either, sure}
use Rattle.lsm_crash.specs.States.{Describes, Finds, HasTables, IsWorldOf}
use Rattle.lsm_crash.specs.Database.{AllCut, AllDone, AllFail, AllowsAll, Answered, Builds, Collect, Deed, Gather, Ingest, Install, IsCut, IsState, Looks, Refused, Refuses, Turn, Turns, Works, after_all, operations}
use Rattle.lsm_crash.proofs.Held.{settled_gap, settled_held, surely_recovers}
use Rattle.lsm_crash.proofs.Tables.{count_settled}
use Rattle.lsm_crash.proofs.Runs.{cut_held, done_settled}
use Rattle.lsm_crash.proofs.Asking.{collect_asks, gather_asks, ingest_asks, install_asks, ready_tables}
use Rattle.lsm_crash.proofs.Failing.{collect_fails, gather_fails, ingest_fails, install_fails}
use Rattle.lsm_crash.proofs.Forms.{recorded_describes}
use Rattle.lsm_crash.proofs.Worlds.{AreOut, Changes, Coming, TablesChange, collect_may, collect_out, deed_allowed, drawn_world, fewer_one, gather_is, ingest_is, install_changes, install_turned, stays_world}

-- ---- operations one after another

pub all_done : (os : List Operation) (w u : World) (d e : Disk) → IsSettled d w → AllowsAll w os → AllDone w os u d e → IsSettled e u × (u ≡ after_all w os)
all_done [] w u d e i ok h = (subst (λ x. IsSettled e x) (sym h.0) (settled_gap w d e h.1 i), h.0)
all_done (o ∷ os) w u d e i ok h = all_done os (after w o) u h.0 e (done_settled d h.0 w o i ok.0 h.1) ok.1 h.2

-- ---- calls that were cut

-- What is known is the old version or the new one, and the tables of either are there.
pub record IsEither (old new : Levels) (w : World) (v : Version) (known : Known) : Type 0 where
  pub sure_of : known.may_miss ≡ false
  pub each : (s : Version) → Has known.versions s → ((s ≡ w.version) × HasTables known.tables old) ⊎ ((s ≡ v) × HasTables known.tables new)

-- both versions, of one list of two
two_versions : (old new : Levels) (w x : World) (v : Version) (o : Operation) → x.version ≡ w.version → (after x o).version ≡ v → sure x o ≡ x.tables → HasTables x.tables old → HasTables x.tables new → IsEither old new w v (either x o)
two_versions old new w x v o was is same had has = record {
  sure_of = refl;
  each = λ s h. elim h [
    | inl e ↦ inr (sym e ∙ is, subst (λ (t : Tables). HasTables t new) (sym same) has)
    | inr k ↦ elim k [ inl e ↦ inl (sym e ∙ was, subst (λ (t : Tables). HasTables t old) (sym same) had) | inr none ↦ absurd none ]
  ];
}

one_version : (old new : Levels) (w : World) (v : Version) (o : Operation) → (after w o).version ≡ w.version → HasTables (sure w o) old → IsEither old new w v (either w o)
one_version old new w v o same had = record {
  sure_of = refl;
  each = λ s h. elim h [
    | inl e ↦ inl (sym e ∙ same, had)
    | inr k ↦ elim k [ inl e ↦ inl (sym e, had) | inr none ↦ absurd none ]
  ];
}

known_version : (old new : Levels) (w u : World) (v : Version) → u.version ≡ v → HasTables u.tables new → IsEither old new w v (known_of u)
known_version old new w u v is has = record { sure_of = refl; each = λ s h. elim h [ inl e ↦ inr (sym e ∙ is, has) | inr none ↦ absurd none ] }

known_before : (old new : Levels) (w u : World) (v : Version) → u.version ≡ w.version → HasTables u.tables old → IsEither old new w v (known_of u)
known_before old new w u v is has = record { sure_of = refl; each = λ s h. elim h [ inl e ↦ inl (sym e ∙ is, has) | inr none ↦ absurd none ] }

abbrev Cut : Levels → Levels → World → Version → Known → Disk → Type 0
Cut old new w v known e = IsHeld e known × IsEither old new w v known

cut_at : (old new : Levels) (w : World) (v : Version) (known k : Known) (e : Disk) → known ≡ k → IsHeld e k → IsEither old new w v k → Cut old new w v known e
cut_at old new w v known k e same held is = subst (λ x. Cut old new w v x e) (sym same) (held, is)

change_cut : (old new : Held) (w x : World) (v : Version) (o : Operation) (known : Known) (d e : Disk) → IsSettled d x → x.version ≡ w.version → HasTables x.tables old.slots.version → Changes x new v o
    → AllCut x (o ∷ []) known d e → Cut old.slots.version new.slots.version w v known e
change_cut old new w x v o known d e i was had c (inl h) =
    cut_at old.slots.version new.slots.version w v known (either x o) e h.1 (cut_held d e x o i c.allowed h.0) (two_versions old.slots.version new.slots.version w x v o was c.version c.sure_are had c.has)
change_cut old new w x v o known d e i was had c (inr h) =
    let j = done_settled d h.0 x o i c.allowed h.1 in
    cut_at old.slots.version new.slots.version w v known (known_of (after x o)) e h.2.0 (settled_held e (after x o) (settled_gap (after x o) h.0 e h.2.1 j)) (known_version old.slots.version new.slots.version w (after x o) v c.version c.world.tables)

coming_cut : {os : List Operation} (old new : Held) (w : World) (v : Version) (known : Known) (d e : Disk) → IsSettled d w → IsWorldOf old w → (g : Coming old new w v os)
    → AllCut w (Put old.next g.image ∷ g.o ∷ []) known d e → Cut old.slots.version new.slots.version w v known e
coming_cut old new w v known d e i o g (inl h) =
    cut_at old.slots.version new.slots.version w v known (either w (Put old.next g.image)) e h.1 (cut_held d e w (Put old.next g.image) i g.put h.0) (one_version old.slots.version new.slots.version w v (Put old.next g.image) refl o.tables)
coming_cut old new w v known d e i o g (inr h) =
    change_cut old new w (after w (Put old.next g.image)) v g.o known h.0 e (done_settled d h.0 w (Put old.next g.image) i g.put h.1) refl g.has g.changes h.2

removes_cut : (old new : Levels) (w x : World) (v : Version) (ns : List ℕ) (known : Known) (d e : Disk) → IsSettled d x → x.version ≡ w.version → AreOut x ns → HasTables x.tables old
    → ((level : ℕ) (t : Table) → Has (level_in old.tables level) t → Has ns t.number → ⊥) → AllCut x (operations v (map shelf.Remove ns)) known d e → Cut old new w v known e
removes_cut old new w x v [] known d e i was out had spared h = cut_at old new w v known (known_of x) e h.0 (settled_held e x (settled_gap x d e h.1 i)) (known_before old new w x v was had)
removes_cut old new w x v (n ∷ ns) known d e i was out had spared h = elim h [
  | inl k ↦ cut_at old new w v known (either x (Remove n)) e k.1 (cut_held d e x (Remove n) i (out n (inl refl)) k.0) record {
    sure_of = refl;
    each = λ s at. inl (elim at [ inl e ↦ sym e ∙ was | inr m ↦ elim m [ inl e ↦ sym e ∙ was | inr none ↦ absurd none ] ], fewer);
  }
  | inr k ↦ removes_cut old new w (after x (Remove n)) v ns known k.0 e (done_settled d k.0 x (Remove n) i (out n (inl refl)) k.1) was (λ m l. out m (inr l)) fewer (λ level t a b. spared level t a (inr b)) k.2
]
  where
    fewer : HasTables (after x (Remove n)).tables old
    fewer level t a = (fewer_one x n []).more t.number t.image (had level t a) (λ b. elim b [ inl e ↦ spared level t a (inl e) | inr none ↦ none ])

-- ---- what is found

pub finds : (known : Known) (found : Found) (r : Recovers known found) (v : Levels) → Describes r.version v → HasTables known.tables v → Finds v found
finds known found r v d has = record {
  manifest = r.manifest;
  bytes = r.bytes;
  shape = r.version;
  small = r.small;
  current = r.current;
  its = r.its;
  comes = r.comes;
  describes = d;
  tables = λ level t h. (r.tables t.number t.image (has level t h)).1;
}

pub cut_finds : (old new : Levels) (w : World) (v : Version) (known : Known) (e : Disk) (found : Found) → Describes w.version old → Describes v new → Cut old new w v known e → IsLeft e found → Finds old found ⊎ Finds new found
cut_finds old new w v known e found a b c l =
    let r = surely_recovers e known found c.1.sure_of c.0 l in
    elim (c.1.each r.version r.good) [
      | inl k ↦ inl (finds known found r old (subst (λ s. Describes s old) (sym k.0) a) k.1)
      | inr k ↦ inr (finds known found r new (subst (λ s. Describes s new) (sym k.0) b) k.1)
    ]

pub settled_finds : (d : Disk) (h : Held) (w : World) (found : Found) → IsSettled d w → IsWorldOf h w → Describes w.version h.slots.version → IsLeft d found → Finds h.slots.version found
settled_finds d h w found i o a l =
    let r = surely_recovers d (known_of w) found refl (settled_held d w i) l in
    finds (known_of w) found r h.slots.version (elim r.good [ inl e ↦ subst (λ s. Describes s h.slots.version) e a | inr none ↦ absurd none ]) o.tables

-- ---- every turn

pub describes : (honest : Type 0) (board : TableId) (h : Held) (w : World) → IsLawfulState honest board h → IsWorldOf h w → ComesTo w.bytes w.version → Describes w.version h.slots.version
describes honest board h w l o c = recorded_describes l.journaled.0 h.journal h.slots.version h.next w.version l.journaled.1 (subst (λ b. ComesTo b w.version) o.bytes c)

module _ (law : TablesChange) (honest : Type 0) (board : TableId) where
  -- a refused call leaves what the state stands for, whatever it was
  refused_at : (old new : Held) (deed : Deed) (asks next : List Asked) (w u : World) (d e : Disk) → IsState honest board old → IsState honest board new → IsWorldOf old w → IsSettled d w → Refuses honest old new deed asks next → new.halted ≡ false
      → AllFail w (operations w.version asks) (operations w.version next) u d e → IsSettled e u × IsWorldOf new u
  refused_at old new (Ingest ws r) asks next w u d e lo ln o i x going h = ingest_fails honest old new w u d e o i ws r asks next x going h
  refused_at old new (Install done) asks next w u d e lo ln o i x going h = install_fails honest old new w u d e o i done asks next x going h
  refused_at old new (Gather number) asks next w u d e lo ln o i x going h = gather_fails honest old new w u d e o i number asks next x going h
  refused_at old new (Collect removed) asks next w u d e lo ln o i x going h = collect_fails honest board old new w u d e lo ln o i removed asks next x going h

  pub turn_keeps : (old new : Held) (turn : Turn) (w u : World) (d e : Disk) → IsState honest board old → IsState honest board new → IsSettled d w → IsWorldOf old w → Turns honest board old new turn w u d e → IsSettled e u × IsWorldOf new u
  turn_keeps old new (Answered deed) w u d e lo ln i o h =
      let ok = deed_allowed law honest board old new deed h.1 w h.0 lo ln o i.comes h.2 h.3 h.4 in
      let r = all_done (operations h.0 h.1) w u d e i ok.0 h.5 in
      (r.0, subst (λ x. IsWorldOf new x) (sym r.1) ok.1)
  turn_keeps old new (Refused deed) w u d e lo ln i o h = refused_at old new deed h.0 h.1 w u d e lo ln o i h.2 h.3 h.4
  turn_keeps old new (Builds number image) w u d e lo ln i o h =
      let mid = h.3.0 in
      let at = settled_gap w d mid h.3.1 i in
      let lt = lo.0.law.books.drawn_below (live_of h.1.0) number (live_has old.live h.1.0 h.1.1) h.1.2 in
      let small : number < 2 ^ 64 = (let f = o.fits in omega arith) in
      let counted = count_settled mid w number image small h.3.2 at in
      let there = subst (λ x. IsSettled mid x) (sym h.2) counted in
      (settled_gap u mid e h.3.3 there, subst (λ (x : Held). IsWorldOf x u) (sym h.0) (subst (λ x. IsWorldOf old x) (sym h.2) (drawn_world honest board old w number image lo.0 o h.1)))
  turn_keeps old new Looks w u d e lo ln i o h = (
    subst (λ x. IsSettled e x) (sym h.1) (settled_gap w d e h.2 i),
    stays_world old new u h.0 (ap (λ (x : World). x.manifest) h.1 ∙ o.manifest) (ap (λ (x : World). x.bytes) h.1 ∙ o.bytes) (subst (λ (x : World). HasTables x.tables old.slots.version) (sym h.1) o.tables)
        (λ n image k. (let lt = o.below n image (ap (λ (x : World). x.tables n) (sym h.1) ∙ k) in let le = h.0.next in omega arith)) o.own,
  )

  pub works_keep : (turns : List Turn) (old new : Held) (w u : World) (d e : Disk) → IsState honest board old → IsSettled d w → IsWorldOf old w → Works honest board old new turns w u d e
      → IsSettled e u × IsWorldOf new u × IsState honest board new
  works_keep [] old new w u d e lo i o h =
      (subst (λ x. IsSettled e x) (sym h.1) (settled_gap w d e h.2 i), subst (λ (x : Held). IsWorldOf x u) (sym h.0) (subst (λ x. IsWorldOf old x) (sym h.1) o), subst (λ (x : Held). IsState honest board x) (sym h.0) lo)
  works_keep (turn ∷ turns) old new w u d e lo i o h =
      let r = turn_keeps old h.0 turn w h.1 d h.2 lo h.3 i o h.4 in
      works_keep turns h.0 new h.1 u h.2 e h.3 r.0 r.1 h.6

  -- a call that was cut leaves the version of before or that of after
  pub cut_known : (old new : Held) (deed : Deed) (w : World) (known : Known) (d e : Disk) → IsState honest board old → IsSettled d w → IsWorldOf old w → (h : IsCut honest board old new deed w known d e)
      → Cut old.slots.version new.slots.version w h.0 known e
  cut_known old new (Ingest ws r) w known d e lo i o h =
      let a = h.3 in
      let g = ingest_is law honest board old new w h.0 lo.0 h.2.0 o i.comes h.5 ws r a.0 a.1 a.2 a.3 in
      coming_cut old new w h.0 known d e i o g (subst (λ os. AllCut w os known d e) g.is (subst (λ xs. AllCut w (operations h.0 xs) known d e) (ingest_asks old new ws r a.0 a.1 a.3 h.1 a.4) h.7))
  cut_known old new (Gather number) w known d e lo i o h =
      let a = h.3 in
      let g = gather_is law honest board old new w h.0 lo.0 h.2.0 o i.comes h.5 number a.0 a.1 a.2 in
      coming_cut old new w h.0 known d e i o g (subst (λ os. AllCut w os known d e) g.is (subst (λ xs. AllCut w (operations h.0 xs) known d e) (gather_asks honest old new number a.0 a.1 a.2 h.1 a.3) h.7))
  cut_known old new (Install done) w known d e lo i o h =
      let a = h.3 in
      let t = install_turned law honest board old new w h.0 lo.0 h.2.0 o i.comes h.5 done a.0 a.1 a.2 a.3 (ready_tables honest board old w done lo.0 o a.2 h.4) in
      let c = install_changes law honest board old new w h.0 lo.0 h.2.0 o i.comes h.5 done a.0 a.1 a.2 a.3 (ready_tables honest board old w done lo.0 o a.2 h.4) in
      change_cut old new w w h.0 t.o known d e i refl o.tables c (subst (λ os. AllCut w os known d e) t.is (subst (λ xs. AllCut w (operations h.0 xs) known d e) (install_asks old new done a.0 a.1 a.3 h.1 a.4) h.7))
  cut_known old new (Collect removed) w known d e lo i o h =
      let a = h.3 in
      removes_cut old.slots.version new.slots.version w w h.0 removed known d e i refl (collect_may law honest board old new w h.0 lo h.2 o i.comes h.5 removed a.0 a.1 a.3 a.5 h.4) o.tables
      (collect_out law honest board old new w h.0 lo h.2 o i.comes h.5 removed a.0 a.1 a.3 a.5) (subst (λ xs. AllCut w (operations h.0 xs) known d e) (collect_asks new removed a.0 a.1 a.5 h.1 a.6) h.7)

  pub cut_leaves : (old new : Held) (deed : Deed) (w : World) (known : Known) (d e : Disk) (found : Found) → IsState honest board old → IsSettled d w → IsWorldOf old w → IsCut honest board old new deed w known d e → IsLeft e found
      → Finds old.slots.version found ⊎ Finds new.slots.version found
  cut_leaves old new deed w known d e found lo i o h l =
      let b = recorded_describes h.2.0.journaled.0 new.journal new.slots.version new.next h.0 h.2.0.journaled.1 h.5 in
      cut_finds old.slots.version new.slots.version w h.0 known e found (describes honest board old w lo.0 o i.comes) b (cut_known old new deed w known d e lo i o h) l

  pub rest_leaves : (turns : List Turn) (old new : Held) (w u : World) (d e : Disk) (found : Found) → IsState honest board old → IsSettled d w → IsWorldOf old w → Works honest board old new turns w u d e → IsLeft e found
      → Finds new.slots.version found
  rest_leaves turns old new w u d e found lo i o h l =
      let r = works_keep turns old new w u d e lo i o h in
      settled_finds e new u found r.0 r.1 (describes honest board new u r.2.0 r.1 r.0.comes) l
