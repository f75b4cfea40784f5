-- What meets the laws' premises, and what wrong orders lose.
use Rattle.std.proofs.Common.{◌≡◌, ℕ, ◌+◌, ◌<◌, ◌^◌, List, [], ◌∷◌, ◌++◌, length, take, refl, sym, ◌∙◌, ap, inl, inr, arith, Some, None}
use Rattle.std.specs.Prelude.{Option, Ok}
use Rattle.std.proofs.lemmas.List.{take_all}
use Rattle.lsm_codec.specs.Lists.{Has}
use Rattle.lsm_folder.specs.Calls.{appended, made, wrote, synced, folder_synced, renamed}
use Rattle.lsm_manifest.specs.Edit.{IsEdit}
use Rattle.lsm_manifest.specs.LogWriting.{record_text}
use Rattle.lsm_manifest.specs.Shape.{IsShape}
use Rattle.lsm_manifest.specs.WholeEdit.{whole_edit}
use Rattle.lsm_storage.specs.FileNames.{table_name, manifest_name, temporary_name, current_text}
use Rattle.lsm_storage.specs.Plans.{append_plan, name_plan, put_plan, remove_plan, start_plan}
use Rattle.lsm_crash.specs.Disk.{Disk, Names, Step, empty_disk, filled, moved, named, with_file, with_names}
use Rattle.lsm_crash.specs.Crash.{Found, IsFileLeft, IsFresh, IsLeft}
use Rattle.lsm_crash.specs.Versions.{IsNamed, Tables, Version}
use Rattle.lsm_crash.specs.Known.{Is, IsSettled, IsSound, IsVacant, World, current_name, nothing}
use Rattle.lsm_crash.specs.Operations.{MayStart, started}
use Rattle.lsm_crash.specs.Among.{DoneAmong, IsGap}
use Rattle.lsm_crash.proofs.Names.{manifest_current, temporary_current, temporary_manifest}
use Rattle.lsm_crash.proofs.Disks.{none_is, set_at, step_sound}
use Rattle.lsm_crash.proofs.Standing.{At, at_makes, at_renamed, at_step, at_syncs, at_writes, sure}
use Rattle.lsm_crash.proofs.Held.{vacant_held}
use Rattle.lsm_crash.proofs.Leading.{whole_comes}
use Rattle.lsm_crash.proofs.Starting.{start_done}

pub empty_vacant : IsVacant empty_disk
empty_vacant = record {
  sound = record { now = inl refl; below = λ p i at. absurd (none_is i at); one = λ p q i at. absurd (none_is i at) };
  none = λ o m. elim m.1 [ inl same ↦ sym m.2 ∙ ap (λ (f : Names). f current_name) (sym same) | inr none ↦ absurd none ];
}

no_gap : (tables : Tables) (d : Disk) → IsGap tables d d
no_gap tables d = ([], refl)

-- on any disk the calls of a start can all be Ok
pub start_can : (tables : Tables) (number : ℕ) (bytes : List ℕ) (d : Disk) → (e : Disk) × DoneAmong tables (start_plan number bytes) d e
start_can tables number bytes d =
    let M = manifest_name number in
    let T = temporary_name number in
    let text = current_text number in
    let d1 = with_file M bytes d in
    let a1 = at_writes d d1 M bytes (inl refl) in
    let d2 = filled a1.0 (d1.bytes a1.0) (length (d1.bytes a1.0)) d1 in
    let d3 : Disk = record d2 { past = d2.names ∷ [] } in
    let d4 = with_file T text d3 in
    let a4 = at_writes d3 d4 T text (inl refl) in
    let d5 = filled a4.0 (d4.bytes a4.0) (length (d4.bytes a4.0)) d4 in
    let d6 = with_names (moved d5.names T current_name a4.0) d5 in
    let d7 : Disk = record d6 { past = d6.names ∷ [] } in
    (d7, (d, no_gap tables d, (d1, inl refl, (d1, no_gap tables d1, (d2, (a1.0, a1.1.names, refl), (d2, no_gap tables d2, (d3, refl, (d3, no_gap tables d3, (d4, inl refl, (d4, no_gap tables d4, (d5, (a4.0, a4.1.names, refl), (d5, no_gap tables d5, (d6, (a4.0, a4.1.names, refl), (d6, no_gap tables d6, (d7, refl, no_gap tables d7)))))))))))))))

-- ---- a crash that loses nothing

shown : Disk → Option ℕ → Option (List ℕ)
shown d None = None
shown d (Some i) = Some (d.bytes i)

shown_left : (d : Disk) (o : Option ℕ) → IsFileLeft d o (shown d o)
unfolding shown
shown_left d None = tt
shown_left d (Some i) = (d.kept i + length (d.bytes i), omega arith, sym (take_all (d.kept i + length (d.bytes i)) (d.bytes i) (omega arith)))

shown_none : (d : Disk) (o : Option ℕ) → shown d o ≡ None → o ≡ None
unfolding shown
shown_none d None e = refl
shown_none d (Some i) e = absurd (let h : Some (d.bytes i) ≡ None = e in cc)

shown_some : (d : Disk) (o : Option ℕ) (bytes : List ℕ) → shown d o ≡ Some bytes → (i : ℕ) × (o ≡ Some i) × (d.bytes i ≡ bytes) × (length (d.bytes i) ≡ length bytes)
unfolding shown
shown_some d None bytes e = absurd (let h : None ≡ Some bytes = e in cc)
shown_some d (Some i) bytes e = let h : d.bytes i ≡ bytes = cc in (i, refl, h, ap length h)

pub crash_can : (d : Disk) → IsSound d → (found : Found) × (e : Disk) × IsLeft d found × IsFresh found e
crash_can d s =
    let e : Disk = record d { kept = λ i. length (d.bytes i); past = d.names ∷ [] } in (
      λ name. shown d (d.names name),
      e,
      record { each = λ name. (d.names name, (d.names, s.now, refl), shown_left d (d.names name)) },
      record {
        none = λ name h. shown_none d (d.names name) h;
        some = λ name bytes h. shown_some d (d.names name) bytes h;
        only = refl;
        below = s.below;
        one = s.one;
      },
    )

-- ---- operations that can be done

pub put_can : (tables : Tables) (number : ℕ) (image : List ℕ) (d : Disk) → d.names (table_name number) ≡ None → (e : Disk) × DoneAmong tables (put_plan number image) d e
put_can tables number image d none =
    let Q = table_name number in
    let d1 = with_file Q image d in
    let a1 = at_makes d d1 Q image (none, refl) in
    let d2 = filled a1.0 (d1.bytes a1.0) (length (d1.bytes a1.0)) d1 in
    let d3 : Disk = record d2 { past = d2.names ∷ [] } in
    (d3, (d, no_gap tables d, (d1, (none, refl), (d1, no_gap tables d1, (d2, (a1.0, a1.1.names, refl), (d2, no_gap tables d2, (d3, refl, no_gap tables d3)))))))

pub append_can : (tables : Tables) (number : ℕ) (text : List ℕ) (d : Disk) (i : ℕ) → d.names (manifest_name number) ≡ Some i → (e : Disk) × DoneAmong tables (append_plan number text) d e
append_can tables number text d i at =
    let d1 = filled i (d.bytes i ++ text) (d.kept i) d in
    let d2 = filled i (d1.bytes i) (length (d1.bytes i)) d1 in
    (d2, (d, no_gap tables d, (d1, (i, at, refl), (d1, no_gap tables d1, (d2, (i, at, refl), no_gap tables d2)))))

pub remove_can : (tables : Tables) (number : ℕ) (d : Disk) → (e : Disk) × DoneAmong tables (remove_plan number) d e
remove_can tables number d = (let d1 = with_names (named d.names (table_name number) None) d in (d1, (d, no_gap tables d, (d1, refl, no_gap tables d1))))

-- ---- a database that is settled

pub some_settled : (v : Version) (own : List ℕ) → IsShape v → IsEdit own (whole_edit v) → ((number : ℕ) → IsNamed v number → ⊥) → (d : Disk) × IsSettled d (started nothing 1 (record_text 0 own) v)
some_settled v own shape spelled none =
    let bytes = record_text 0 own in
    let r = start_can nothing.tables 1 bytes empty_disk in
    let ok : MayStart nothing 1 bytes v = record { small = omega arith; other = λ h. h; comes = whole_comes v own shape spelled; there = λ number named. absurd (none number named) } in
    (r.0, start_done nothing 1 bytes v ok empty_disk r.0 (vacant_held empty_disk empty_vacant) r.1)

-- ---- wrong orders: a crash that leaves no more than it must

least : Disk → Option ℕ → Option (List ℕ)
least d None = None
least d (Some i) = Some (take (d.kept i) (d.bytes i))

least_left : (d : Disk) (o : Option ℕ) → IsFileLeft d o (least d o)
unfolding least
least_left d None = tt
least_left d (Some i) = (d.kept i, omega arith, refl)

least_of : Disk → Found
least_of d name = least d (d.names name)

least_is : (d : Disk) → Has d.past d.names → IsLeft d (least_of d)
unfolding least_of
least_is d now = record { each = λ name. (d.names name, (d.names, now, refl), least_left d (d.names name)) }

-- of a file, what is durable
least_at : (d : Disk) (q : List ℕ) (i : ℕ) (bytes : List ℕ) (kept : ℕ) → At d q i bytes kept → least_of d q ≡ Some (take kept bytes)
unfolding least_of least
least_at d q i bytes kept a = ap (least d) a.names ∙ (ap (λ n. Some (take n (d.bytes i))) a.kept_is ∙ ap (λ b. Some (take kept b)) a.bytes_are)

pub table_unsynced : (tables : Tables) (number : ℕ) (image : List ℕ) (d : Disk) → d.names (table_name number) ≡ None
    → (e : Disk) × (found : Found) × DoneAmong tables (made (table_name number) image ∷ folder_synced ∷ []) d e × IsLeft e found × (found (table_name number) ≡ Some [])
table_unsynced tables number image d none =
    let Q = table_name number in
    let d1 = with_file Q image d in
    let a1 = at_makes d d1 Q image (none, refl) in
    let d2 : Disk = record d1 { past = d1.names ∷ [] } in
    let at2 : At d2 Q a1.0 image 0 = record { names = a1.1.names; bytes_are = a1.1.bytes_are; kept_is = a1.1.kept_is } in
    (d2, least_of d2, (d, no_gap tables d, (d1, (none, refl), (d1, no_gap tables d1, (d2, refl, no_gap tables d2)))), least_is d2 (inl refl), least_at d2 Q a1.0 image 0 at2)

pub name_unsynced : (tables : Tables) (number : ℕ) (image : List ℕ)
    → (e : Disk) × (found : Found) × DoneAmong tables (made (table_name number) image ∷ synced (table_name number) ∷ []) empty_disk e × IsLeft e found × (found (table_name number) ≡ None)
name_unsynced tables number image =
    let Q = table_name number in
    let d1 = with_file Q image empty_disk in
    let a1 = at_makes empty_disk d1 Q image (refl, refl) in
    let d2 = filled a1.0 (d1.bytes a1.0) (length (d1.bytes a1.0)) d1 in (
      d2,
      λ name. None,
      (empty_disk, no_gap tables empty_disk, (d1, (refl, refl), (d1, no_gap tables d1, (d2, (a1.0, a1.1.names, refl), no_gap tables d2)))),
      record { each = λ name. (None, (empty_disk.names, inr (inl refl), refl), tt) },
      refl,
    )

pub append_unsynced : (tables : Tables) (w : World) (text : List ℕ) (d : Disk) → IsSettled d w
    → (e : Disk) × (found : Found) × DoneAmong tables (appended (manifest_name w.manifest) text ∷ []) d e × IsLeft e found × (found (manifest_name w.manifest) ≡ Some w.bytes)
append_unsynced tables w text d s =
    let M = manifest_name w.manifest in
    let h = sure (Is s.its.0 w.bytes) d M s.its.1 (d.names M) (d.names, s.sound.now, refl) in
    let i = h.0 in
    let d1 = filled i (d.bytes i ++ text) (d.kept i) d in
    let at1 : At d1 M i (w.bytes ++ text) (length w.bytes) = record {
      names = h.1;
      bytes_are = set_at d.bytes i (d.bytes i ++ text) ∙ ap (λ b. b ++ text) h.4.1;
      kept_is = set_at d.kept i (d.kept i) ∙ h.4.2;
    } in (
      d1,
      least_of d1,
      (d, no_gap tables d, (d1, (i, h.1, refl), no_gap tables d1)),
      least_is d1 s.sound.now,
      least_at d1 M i (w.bytes ++ text) (length w.bytes) at1 ∙ ap Some (front_is w.bytes text),
    )
  where
    front_is : (b more : List ℕ) → take (length b) (b ++ more) ≡ b
    front_is [] more = refl
    front_is (x ∷ b) more = ap (λ t. x ∷ t) (front_is b more)

pub manifest_unsynced : (tables : Tables) (number : ℕ) (bytes : List ℕ) (d : Disk) → IsSound d → number < 2 ^ 64
    → (e : Disk) × (found : Found) × DoneAmong tables (wrote (manifest_name number) bytes ∷ folder_synced ∷ name_plan number) d e
    × IsLeft e found × (found current_name ≡ Some (current_text number)) × (found (manifest_name number) ≡ Some [])
manifest_unsynced tables number bytes d s small =
    let M = manifest_name number in
    let T = temporary_name number in
    let text = current_text number in
    let apart : T ≡ M → ⊥ = temporary_manifest number number small in
    let d1 = with_file M bytes d in
    let s1 = step_sound d d1 (wrote M bytes (Ok tt)) s (inl refl) in
    let a1 = at_writes d d1 M bytes (inl refl) in
    let d2 : Disk = record d1 { past = d1.names ∷ [] } in
    let s2 = step_sound d1 d2 (folder_synced (Ok tt)) s1 refl in
    let m2 = at_step d1 d2 (folder_synced (Ok tt)) M a1.0 bytes 0 s1 tt refl a1.1 in
    let d3 = with_file T text d2 in
    let s3 = step_sound d2 d3 (wrote T text (Ok tt)) s2 (inl refl) in
    let a3 = at_writes d2 d3 T text (inl refl) in
    let m3 = at_step d2 d3 (wrote T text (Ok tt)) M a1.0 bytes 0 s2 apart (inl refl) m2 in
    let d4 = filled a3.0 (d3.bytes a3.0) (length (d3.bytes a3.0)) d3 in
    let h4 : Step d3 (synced T (Ok tt)) d4 = (a3.0, a3.1.names, refl) in
    let s4 = step_sound d3 d4 (synced T (Ok tt)) s3 h4 in
    let t4 = at_syncs d3 d4 T a3.0 text 0 a3.1 h4 in
    let m4 = at_step d3 d4 (synced T (Ok tt)) M a1.0 bytes 0 s3 apart h4 m3 in
    let d5 = with_names (moved d4.names T current_name a3.0) d4 in
    let h5 : Step d4 (renamed T current_name (Ok tt)) d5 = (a3.0, t4.names, refl) in
    let s5 = step_sound d4 d5 (renamed T current_name (Ok tt)) s4 h5 in
    let c5 = at_renamed d4 d5 T current_name a3.0 text (length text) (temporary_current number) t4 h5 in
    let m5 = at_step d4 d5 (renamed T current_name (Ok tt)) M a1.0 bytes 0 s4 (apart, λ e. manifest_current number (sym e)) h5 m4 in
    let d6 : Disk = record d5 { past = d5.names ∷ [] } in
    let c6 = at_step d5 d6 (folder_synced (Ok tt)) current_name a3.0 text (length text) s5 tt refl c5 in
    let m6 = at_step d5 d6 (folder_synced (Ok tt)) M a1.0 bytes 0 s5 tt refl m5 in (
      d6,
      least_of d6,
      (d, no_gap tables d, (d1, inl refl, (d1, no_gap tables d1, (d2, refl, (d2, no_gap tables d2, (d3, inl refl, (d3, no_gap tables d3, (d4, h4, (d4, no_gap tables d4, (d5, h5, (d5, no_gap tables d5, (d6, refl, no_gap tables d6)))))))))))),
      least_is d6 (inl refl),
      least_at d6 current_name a3.0 text (length text) c6 ∙ ap Some (take_all (length text) text (omega arith)),
      least_at d6 M a1.0 bytes 0 m6,
    )
