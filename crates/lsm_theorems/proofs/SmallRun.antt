-- The small run, step by step.
use Rattle.std.proofs.Common.{◌≡◌, ◌⊎◌, ℕ, ◌≤◌, ◌<◌, false, [], ◌∷◌, refl, inl, inr, arith}
use Rattle.lsm_codec.specs.Lists.{Has}
use Rattle.lsm_codec.specs.Keys.{UserLe}
use Rattle.lsm_codec.proofs.CallerLemmas.{user_le_refl}
use Rattle.lsm_model.specs.Files.{File, Before, Fits, all_entries}
use Rattle.lsm_model.specs.Jobs.{Changed, is_input}
use Rattle.lsm_model.specs.Kept.{kept_entries}
use Rattle.lsm_model.specs.Plain.{Ingests, Installs, Plain, Reserves, created}
use Rattle.lsm_model.specs.Plans.{IsLinked, starting, meeting, IsClosed, Spans}
use Rattle.lsm_model.specs.Runs.{Ingest, Snapshot, Release, Reserve, Draw, Install, Run}
use Rattle.lsm_model.specs.Streams.{Ends, IsCut, IsMerge}
use Rattle.lsm_theorems.specs.SmallRun.{entry, events, file, job, left, plan}
use Rattle.lsm_theorems.proofs.Elements.{one_of, two_of}

le : UserLe [] []
le = user_le_refl []

-- a file of one entry
one_fits : (level number seq : ℕ) → Fits (file level number (entry seq ∷ []))
one_fits level number seq = record {
  above = λ e h. one_of (entry seq) (λ x. UserLe [] x.user) le e h;
  below = λ e h. one_of (entry seq) (λ x. UserLe x.user []) le e h;
  first = (entry seq, inl refl, refl);
  last = (entry seq, inl refl, refl);
  one_each = λ x y hx hy same stamps. one_of (entry seq) (λ z. z ≡ y) (one_of (entry seq) (λ z. entry seq ≡ z) refl y hy) x hx;
}

-- a batch of one entry comes in
one_comes : (s : Plain) (number seq last next : ℕ) → s.last < seq → seq ≤ last → s.last ≤ last → s.next ≤ number → number < next
    → Ingests s (entry seq ∷ []) (record s { files = file 0 number (entry seq ∷ []) ∷ s.files; last = last; next = next })
one_comes s number seq last next above upto grows drawn passed = record {
  file = file 0 number (entry seq ∷ []);
  files = file 0 number (entry seq ∷ []) ∷ s.files;
  last = last;
  next = next;
  is = refl;
  level = refl;
  fits = one_fits 0 number seq;
  entries = refl;
  above = λ e h. one_of (entry seq) (λ x. s.last < x.seq) above e h;
  upto = λ e h. one_of (entry seq) (λ x. x.seq ≤ last) upto e h;
  grows = grows;
  drawn = drawn;
  passed = passed;
  from = λ F h. h;
  stays = λ F h. inr h;
  added = inl refl;
}

abbrev old_one : File
old_one = file 0 2 (entry 1 ∷ [])

abbrev young_one : File
young_one = file 0 3 (entry 2 ∷ [])

abbrev s1 : Plain
s1 = record created { files = old_one ∷ []; last = 1; next = 3 }

abbrev s2 : Plain
s2 = record s1 { snapshots = (1, 1) ∷ []; next_id = 2 }

abbrev s3 : Plain
s3 = record s2 { files = young_one ∷ old_one ∷ []; last = 2; next = 4 }

abbrev s4 : Plain
s4 = record s3 { live = record { job = job; drawn = [] } ∷ []; next_ticket = 2 }

abbrev s5 : Plain
s5 = record s4 { live = record { job = job; drawn = 4 ∷ [] } ∷ []; next = 5 }

abbrev s6 : Plain
s6 = record s5 { files = file 0 5 (entry 3 ∷ []) ∷ young_one ∷ old_one ∷ []; last = 3; next = 6 }

abbrev s7 : Plain
s7 = record s6 { files = left.files; live = [] }

-- ---- the reservation

spans : Spans (young_one ∷ old_one ∷ []) [] []
spans = record {
  above = λ F h. two_of young_one old_one (λ G. UserLe [] G.low) le le F h;
  below = λ F h. two_of young_one old_one (λ G. UserLe G.high []) le le F h;
  least = (young_one, inl refl, refl);
  greatest = (young_one, inl refl, refl);
}

in_version : (n : ℕ) (Start : File → Type 0) (F : File) → IsLinked s3.files n Start F → Has s3.files F × (F.level ≡ n)
in_version n Start F (starting _ h at s) = (h, at)
in_version n Start F (meeting E _ l h at m) = (h, at)

none_below : (F : File) → Has s3.files F → 1 ≤ F.level → ⊥
none_below F h low = two_of young_one old_one (λ G. 1 ≤ G.level → ⊥) (λ l. absurd (omega arith)) (λ l. absurd (omega arith)) F h low

closed : IsClosed s3.files (Has s3.files) plan
closed = record {
  upper_from = λ F h. starting F h (two_of young_one old_one (λ G. G.level ≡ 0) refl refl F h) h;
  upper_all = λ F l. (in_version 0 (Has s3.files) F l).0;
  from = [];
  to = [];
  range = spans;
  lower_from = λ F h. absurd h;
  lower_all = λ F l. (let p = in_version 1 _ F l in let at = p.1 in absurd (none_below F p.0 (omega arith)));
  hull = spans;
}

reserves : (H : Type 0) → Reserves H s3 plan job s4
reserves H = record {
  is = refl;
  is_job = record {
    level = refl;
    inputs = refl;
    low = refl;
    high = refl;
    ranges = λ F h low. absurd (none_below F h (omega arith));
    ranges_from = λ r h. absurd h;
  };
  inputs = λ F h. h;
  levels = λ F h. inl (two_of young_one old_one (λ G. G.level ≡ 0) refl refl F h);
  floor = refl;
  ticket = refl;
  clear = λ a h. absurd h;
  closed = λ y. (s3.files, closed);
}

-- ---- the install

abbrev out : File
out = file 1 4 (entry 2 ∷ entry 1 ∷ [])

merges : IsMerge (entry 2 ∷ entry 1 ∷ []) (all_entries job.inputs)
merges = record {
  ascending = ((λ y h. one_of (entry 1) (Before (entry 2)) refl y h), ((λ y h. absurd h), tt));
  from = λ e h. h;
  to = λ e h. h;
}

ends : Ends out
ends = record {
  first = (entry 2, entry 1 ∷ [], refl, refl);
  last = (entry 2 ∷ [], entry 1, refl, refl);
}

cut : IsCut 1 (kept_entries (entry 2 ∷ entry 1 ∷ []) 1 []) (out ∷ [])
cut = record {
  whole = refl;
  levels = λ F h. one_of out (λ G. G.level ≡ 1) refl F h;
  ends = λ F h. one_of out Ends ends F h;
  cuts = tt;
  rising = ((λ G h. absurd h), tt);
}

changed : Changed s6.files job (out ∷ []) left.files
changed = record {
  from = λ F h. two_of (file 0 5 (entry 3 ∷ [])) out (λ G. Has (out ∷ []) G ⊎ (Has s6.files G × (is_input job G ≡ false))) (inr (inl refl, refl)) (inl (inl refl)) F h;
  stays = λ F h no. elim h [
    | inl e ↦ inl e
    | inr k ↦ absurd (two_of young_one old_one (λ G. is_input job G ≡ false → ⊥) (λ e. absurd (cc)) (λ e. absurd (cc)) F k no)
  ];
  added = λ F h. inr h;
}

installs : (H : Type 0) → Installs H s6 1 s7
installs H = record {
  one = record { job = job; drawn = 4 ∷ [] };
  was_live = inl refl;
  its = refl;
  outs = out ∷ [];
  booked = inl (((λ G h. absurd h), tt), λ F h. one_of out (λ G. Has (4 ∷ []) G.number) (inl refl) F h);
  result = λ y. inl record { merged = entry 2 ∷ entry 1 ∷ []; merges = merges; cut = cut };
  files = left.files;
  is = refl;
  changed = changed;
}

pub small_run : (H : Type 0) → Run H created events left
small_run H = (s1, one_comes created 2 1 1 3 (omega arith) (omega arith) (omega arith) (omega arith) (omega arith), from_s1)
  where
    from_s6 : Run H s6 (Install 1 ∷ Release 1 ∷ []) left
    from_s6 = (s7, installs H, (left, refl, refl))

    from_s3 : Run H s3 (Reserve plan job ∷ Draw 1 ∷ Ingest (entry 3 ∷ []) ∷ Install 1 ∷ Release 1 ∷ []) left
    from_s3 = (s4, reserves H, (s5, refl, (s6, one_comes s5 5 3 3 6 (omega arith) (omega arith) (omega arith) (omega arith) (omega arith), from_s6)))

    from_s1 : Run H s1 (Snapshot ∷ Ingest (entry 2 ∷ []) ∷ Reserve plan job ∷ Draw 1 ∷ Ingest (entry 3 ∷ []) ∷ Install 1 ∷ Release 1 ∷ []) left
    from_s1 = (s2, refl, (s3, one_comes s2 3 2 2 4 (omega arith) (omega arith) (omega arith) (omega arith) (omega arith), from_s3))
