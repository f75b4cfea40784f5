-- Two jobs, a move, a cut and a judged version, so small that all is in sight.
use Rattle.std.proofs.Common.{◌≡◌, ◌⊎◌, ℕ, zero, suc, ◌≤◌, ◌<◌, false, true, List, [], ◌∷◌, length, refl, sym, ◌∙◌, ap, subst, inl, inr, arith}
use Rattle.lsm_codec.specs.declared.kind.Kind.TheVariants.{Value}
use Rattle.lsm_codec.specs.Lists.{Has}
use Rattle.lsm_codec.specs.Keys.{UserKey, UserLe, user_le}
use Rattle.lsm_codec.specs.Entries.{Entry, internal_key}
use Rattle.lsm_codec.proofs.CallerLemmas.{user_le_refl}
use Rattle.lsm_model.specs.Checking.{IsJudged, IsRangeOf, Listed, file_at, files_from, level_in, ranges_of}
use Rattle.lsm_model.specs.Files.{File, Before, Fits, InOrder, IsLawful, all_entries}
use Rattle.lsm_model.specs.Jobs.{AreOutputs, Changed, Conflicts, IsMove, IsOpenIn, Job, at_level, is_input}
use Rattle.lsm_model.specs.Kept.{kept_entries}
use Rattle.lsm_model.specs.Merging.{Placed}
use Rattle.lsm_model.specs.Ranges.{EachPair, MeetInKeys}
use Rattle.lsm_model.specs.Streams.{Ends, IsCut, IsMerge}
use Rattle.lsm_model.proofs.CallerLemmas.{move_outputs}
use Rattle.lsm_theorems.proofs.Elements.{one_of, two_of}

abbrev second_key : UserKey
second_key = 1 ∷ []

-- an entry and a file of one user key
abbrev pub at : UserKey → ℕ → Entry
at k s = record { user = k; seq = s; kind = Value; value = [] }

abbrev file : (level number : ℕ) → UserKey → ℕ → File
file level number k s = record { level = level; number = number; low = k; high = k; entries = at k s ∷ [] }

fits : (level number : ℕ) (k : UserKey) (s : ℕ) → Fits (file level number k s)
fits level number k s = record {
  above = λ e h. one_of (at k s) (λ x. UserLe k x.user) (user_le_refl k) e h;
  below = λ e h. one_of (at k s) (λ x. UserLe x.user k) (user_le_refl k) e h;
  first = (at k s, inl refl, refl);
  last = (at k s, inl refl, refl);
  one_each = λ x y hx hy same stamps. one_of (at k s) (λ z. z ≡ y) (one_of (at k s) (λ z. at k s ≡ z) refl y hy) x hx;
}

not_le : UserLe second_key [] → ⊥
unfolding user_le
not_le e = (let no : user_le second_key [] ≡ false = refl in absurd (cc))

-- ---- two open jobs of one level, the first of which is a move

abbrev left_file : File
left_file = file 1 1 [] 1

abbrev right_file : File
right_file = file 1 2 second_key 2

abbrev version : List File
version = left_file ∷ right_file ∷ []

abbrev left_job : Job
left_job = record { ticket = 1; level = 1; inputs = left_file ∷ []; low = []; high = []; floor = 2; ranges = []; is_move = true }

abbrev right_job : Job
right_job = record { ticket = 2; level = 1; inputs = right_file ∷ []; low = second_key; high = second_key; floor = 2; ranges = []; is_move = false }

both : (P : File → Type 0) → P left_file → P right_file → (F : File) → Has version F → P F
both P p q F h = two_of left_file right_file P p q F h

one_level : (F : File) → Has version F → F.level ≡ 1
one_level F h = both (λ G. G.level ≡ 1) refl refl F h

lawful : IsLawful version
lawful = record {
  fits = λ F h. both Fits (fits 1 1 [] 1) (fits 1 2 second_key 2) F h;
  numbers = λ F G hF hG e. both (λ A. (B : File) → Has version B → A.number ≡ B.number → A ≡ B)
      (λ B h. both (λ C. 1 ≡ C.number → left_file ≡ C) (λ s. refl) (λ s. absurd (omega arith)) B h)
      (λ B h. both (λ C. 2 ≡ C.number → right_file ≡ C) (λ s. absurd (omega arith)) (λ s. refl) B h) F hF G hG e;
  in_order = λ F G hF hG same pos ne. both (λ A. (B : File) → Has version B → (A.number ≡ B.number → ⊥) → InOrder A B)
      (λ B h. both (λ C. (1 ≡ C.number → ⊥) → InOrder left_file C) (λ no. absurd (no refl)) (λ no. inl ahead) B h)
      (λ B h. both (λ C. (2 ≡ C.number → ⊥) → InOrder right_file C) (λ no. inr ahead) (λ no. absurd (no refl)) B h) F hF G hG ne;
  depth = λ F G x y hF hG s kx ky u. (let a = one_level F hF in let b = one_level G hG in
      elim s [ inl lt ↦ absurd (omega arith) | inr o ↦ (let z = o.0 in absurd (omega arith)) ]);
}
  where
    ahead : (x y : Entry) → Has left_file.entries x → Has right_file.entries y → Before x y
    ahead x y hx hy = one_of (at [] 1) (λ z. Before z y) (one_of (at second_key 2) (Before (at [] 1)) refl y hy) x hx

-- a job of one input at level 1, where another file of the version has another key
alone : (one other : File) (job : Job) → (k j : UserKey) (s t : ℕ) → one.level ≡ 1 → one.low ≡ k → one.high ≡ k → one.entries ≡ at k s ∷ [] → other.entries ≡ at j t ∷ [] → (k ≡ j → ⊥)
    → job.level ≡ 1 → job.inputs ≡ one ∷ [] → job.low ≡ k → job.high ≡ k → is_input job one ≡ true
    → Has version one → ((F : File) → Has version F → (one ≡ F) ⊎ (other ≡ F)) → IsOpenIn version job
alone one other job k j s t level low high entries others apart job_level inputs job_low job_high is has cases = record {
  inputs = λ F h. subst (Has version) (its F h) has;
  levels = λ F h. inl (one_level F (subst (Has version) (its F h) has) ∙ sym job_level);
  hull = λ F h. subst (λ (G : File). UserLe job.low G.low × UserLe G.high job.high) (its F h) (
    subst (λ (u : UserKey). UserLe u one.low) (sym job_low) (subst (UserLe k) (sym low) (user_le_refl k)),
    subst (UserLe one.high) (sym job_high) (subst (λ (u : UserKey). UserLe u k) (sym high) (user_le_refl k)),
  );
  alone = λ F h at meets. (let a = one_level F h in absurd (omega arith));
  newer = λ F G x y hF at no hG kx ky u. elim (cases F hF) [
    | inl e ↦ (let f : is_input job F ≡ true = subst (λ (D : File). is_input job D ≡ true) e is in absurd (cc))
    | inr e ↦ absurd (apart (key_of k s one entries y (subst (λ (D : File). Has D.entries y) (sym (its G hG)) ky) ∙ (sym u ∙ sym (key_of j t other others x (subst (λ (D : File). Has D.entries x) (sym e) kx)))))
  ];
  below = λ F G x y hF deep hG kx ky u. (let a = one_level F hF in absurd (omega arith));
}
  where
    its : (F : File) → Has job.inputs F → one ≡ F
    its F h = one_of one (λ G. one ≡ G) refl F (subst (λ (Fs : List File). Has Fs F) inputs h)

    key_of : (u : UserKey) (q : ℕ) (F : File) → F.entries ≡ at u q ∷ [] → (e : Entry) → Has F.entries e → u ≡ e.user
    key_of u q F es e h = one_of (at u q) (λ x. u ≡ x.user) refl e (subst (λ (xs : List Entry). Has xs e) es h)

apart_keys : [] ≡ second_key → ⊥
apart_keys e = absurd (cc)

left_open : IsOpenIn version left_job
left_open = alone left_file right_file left_job [] second_key 1 2 refl refl refl refl refl apart_keys refl refl refl refl refl (inl refl)
    (λ F h. both (λ G. (left_file ≡ G) ⊎ (right_file ≡ G)) (inl refl) (inr refl) F h)

right_open : IsOpenIn version right_job
right_open = alone right_file left_file right_job second_key [] 2 1 refl refl refl refl refl (λ e. apart_keys (sym e)) refl refl refl refl refl (inr (inl refl))
    (λ F h. both (λ G. (right_file ≡ G) ⊎ (left_file ≡ G)) (inr refl) (inl refl) F h)

no_conflict : Conflicts left_job right_job → ⊥
no_conflict (inl s) = elim s.2 [
  | inl e ↦ elim s.3 [
    | inl f ↦ (let a : 1 ≡ s.0.number = ap (λ (D : File). D.number) e in let b : 2 ≡ s.1.number = ap (λ (D : File). D.number) f in let c = s.4 in absurd (omega arith))
    | inr h ↦ absurd h
  ]
  | inr h ↦ absurd h
]
no_conflict (inr m) = not_le m.2

abbrev outs : List File
outs = at_level 2 left_file ∷ []

abbrev after : List File
after = at_level 2 left_file ∷ right_file ∷ []

moves : IsMove left_job outs
moves = (left_file, refl, refl)

changed : Changed version left_job outs after
changed = record {
  from = λ F h. two_of (at_level 2 left_file) right_file (λ G. Has outs G ⊎ (Has version G × (is_input left_job G ≡ false))) (inl (inl refl)) (inr (inr (inl refl), refl)) F h;
  stays = λ F h no. elim h [
    | inl e ↦ (let yes : is_input left_job F ≡ true = subst (λ (D : File). is_input left_job D ≡ true) e refl in absurd (cc))
    | inr k ↦ inr k
  ];
  added = λ F h. one_of (at_level 2 left_file) (Has after) (inl refl) F h;
}

pub two_jobs : (v : List File) × (w : List File) × (outs : List File) × (job : Job) × (other : Job) × (job.ticket ≡ other.ticket → ⊥) × IsLawful v × IsOpenIn v job × IsOpenIn v other
    × (Conflicts job other → ⊥) × IsMove job outs × AreOutputs v job (all_entries job.inputs) outs × Changed v job outs w
two_jobs = (version, after, outs, left_job, right_job, (λ e. absurd (omega arith)), lawful, left_open, right_open, no_conflict, moves, move_outputs version left_job outs lawful left_open moves, changed)

-- ---- a merge whose outputs are two

abbrev merged : List Entry
merged = at [] 1 ∷ at second_key 2 ∷ []

abbrev pieces : List File
pieces = file 2 3 [] 1 ∷ file 2 4 second_key 2 ∷ []

ends : (level number : ℕ) (k : UserKey) (s : ℕ) → Ends (file level number k s)
ends level number k s = record { first = (at k s, [], refl, refl); last = ([], at k s, refl, refl) }

pub two_outputs : (merged : List Entry) × (es : List Entry) × (outs : List File) × IsMerge merged es × IsCut 2 (kept_entries merged 2 []) outs × (length outs ≡ 2)
two_outputs = (
  merged,
  merged,
  pieces,
  record {
    ascending = ((λ y h. one_of (at second_key 2) (Before (at [] 1)) refl y h), ((λ y h. absurd h), tt));
    from = λ e h. h;
    to = λ e h. h;
  },
  record {
    whole = refl;
    levels = λ F h. two_of (file 2 3 [] 1) (file 2 4 second_key 2) (λ G. G.level ≡ 2) refl refl F h;
    ends = λ F h. two_of (file 2 3 [] 1) (file 2 4 second_key 2) Ends (ends 2 3 [] 1) (ends 2 4 second_key 2) F h;
    cuts = ((λ e. apart_keys e), tt);
    rising = ((λ G h. one_of (file 2 4 second_key 2) (λ D. 3 < D.number) (omega arith) G h), ((λ G h. absurd h), tt));
  },
  refl,
)

-- ---- a version that was judged table by table: a newer table of level 0 above one of level 1

abbrev pub newer_table : Listed
newer_table = record { number = 2; range = record { smallest = internal_key (at [] 2); largest = internal_key (at [] 2) }; entries = at [] 2 ∷ [] }

abbrev pub older_table : Listed
older_table = record { number = 1; range = record { smallest = internal_key (at [] 1); largest = internal_key (at [] 1) }; entries = at [] 1 ∷ [] }

abbrev pub tables : List (List Listed)
tables = (newer_table ∷ []) ∷ (older_table ∷ []) ∷ []

abbrev pub placed : List Placed
placed = (0, at [] 2) ∷ (1, at [] 1) ∷ []

one_range : (s : ℕ) → IsRangeOf (at [] s ∷ []) (record { smallest = internal_key (at [] s); largest = internal_key (at [] s) })
one_range s = record {
  ascending = ((λ y h. absurd h), tt);
  first = (at [] s, [], refl, refl);
  last = ([], at [] s, refl, refl);
}

judged_files : (P : File → Type 0) → P (file_at 0 newer_table) → P (file_at 1 older_table) → (F : File) → Has (files_from 0 tables) F → P F
judged_files P p q F h = two_of (file_at 0 newer_table) (file_at 1 older_table) P p q F h

pub judged : IsJudged tables (λ F. F.level) placed
judged = record {
  ranges = ranges_at;
  numbers = λ F G hF hG e. judged_files (λ A. (B : File) → Has (files_from 0 tables) B → A.number ≡ B.number → A ≡ B)
      (λ B h. judged_files (λ C. 2 ≡ C.number → file_at 0 newer_table ≡ C) (λ s. refl) (λ s. absurd (omega arith)) B h)
      (λ B h. judged_files (λ C. 1 ≡ C.number → file_at 1 older_table ≡ C) (λ s. absurd (omega arith)) (λ s. refl) B h) F hF G hG e;
  apart = apart_at;
  depths = λ F G hF hG s. elim s [ inl lt ↦ lt | inr o ↦ absurd (let a = number_at F hF o.0 in let b = number_at G hG o.1 in let c = o.2 in omega arith) ];
  all = λ F e hF he. judged_files (λ D. Has D.entries e → Has placed (D.level, e)) (λ k. one_of (at [] 2) (λ x. Has placed (0, x)) (inl refl) e k) (λ k. one_of (at [] 1) (λ x. Has placed (1, x)) (inr (inl refl)) e k) F hF he;
  ages = λ p q hp hq same deeper. two_of (0, at [] 2) (1, at [] 1) (λ x. x.0 < q.0 → q.1.seq < x.1.seq)
      (λ lt. two_of (0, at [] 2) (1, at [] 1) (λ x. 0 < x.0 → x.1.seq < 2) (λ l. absurd (omega arith)) (λ l. omega arith) q hq lt)
      (λ lt. two_of (0, at [] 2) (1, at [] 1) (λ x. 1 < x.0 → x.1.seq < 1) (λ l. absurd (omega arith)) (λ l. absurd (omega arith)) q hq lt) p hp deeper;
}
  where
    ranges_at : (n : ℕ) (t : Listed) → Has (level_in tables n) t → IsRangeOf t.entries t.range
    ranges_at zero t h = one_of newer_table (λ u. IsRangeOf u.entries u.range) (one_range 2) t h
    ranges_at (suc zero) t h = one_of older_table (λ u. IsRangeOf u.entries u.range) (one_range 1) t h
    ranges_at (suc (suc n)) t h = absurd h

    apart_at : (n : ℕ) → 1 ≤ n → EachPair (λ a b. MeetInKeys a b → ⊥) (ranges_of (level_in tables n))
    apart_at zero le = absurd (omega arith)
    apart_at (suc zero) le = ((λ y h. absurd h), tt)
    apart_at (suc (suc n)) le = tt

    number_at : (F : File) → Has (files_from 0 tables) F → F.level ≡ 0 → F.number ≡ 2
    number_at F h at = judged_files (λ G. G.level ≡ 0 → G.number ≡ 2) (λ e. refl) (λ e. absurd (omega arith)) F h at
