-- What is read as a stored block's contents stands there, and what stands there is read.
use Rattle.std.proofs.Common.{◌≡◌, ℕ, zero, suc, ◌+◌, ◌<◌, ◌≤◌, Bool, true, false, cond, leb, eqb, List, [], ◌∷◌, ◌++◌, length, get_or, take, drop, Result, Ok, Err, refl, sym, ap, ◌∙◌, subst, append_assoc, arith, add-one}
use Rattle.std.specs.Str.{bytes_eq}
use Rattle.std.proofs.Math.Seq.{drop-cons}
use Rattle.std.proofs.lemmas.Bool.{le-leb, leb-true, ne_eqb}
use Rattle.std.proofs.lemmas.List.{take_at, drop_at, take-append-drop, length-append, length-drop, length-take-le}
use Rattle.lsm_codec.proofs.CallerLemmas.{IsBytes}
use Rattle.lsm_block.proofs.CallerLemmas.{IsBytes-after, IsBytes-take, IsBytes-drop, IsBytes-front}
use Rattle.lsm_snappy.specs.Reading.{plain_at}
use Rattle.lsm_snappy.specs.declared.fault.SnappyFault.{SnappyFault}
use Rattle.lsm_snappy.specs.declared.fault.SnappyFault.TheVariants as snappy
use Rattle.lsm_snappy.proofs.CallerLemmas.{plain_takes, plain_again, plain_fits}
use Rattle.lsm_table.specs.declared.table_fault.TableFault.TheVariants as fault
use Rattle.lsm_table.specs.declared.handle.Handle.{Handle}
use Rattle.lsm_table.specs.StoredBlock.{seal, kind_fault, unsealed}
use Rattle.lsm_table.specs.Reading.{guarded as judged}
use Rattle.lsm_inflate.specs.declared.inflate_fault.InflateFault.{InflateFault}
use Rattle.lsm_inflate.specs.declared.inflate_fault.InflateFault.TheVariants.{Table}
use Rattle.lsm_inflate.specs.StoredContents.{StandFor, HoldsPacked, snappy_or, is_snappy, expanded, packed_at, contents_at}
use Rattle.lsm_inflate.proofs.PlainReading as plain
use Rattle.lsm_inflate.proofs.StepLaws.{guard_ok, ok_is, done}

-- the byte at a place, between what stands before it and after it
cell : (text : List ℕ) (size : ℕ) → size < length text → text ≡ take size text ++ (get_or text size 0 ∷ drop (size + 1) text)
cell text size h =
    let rest : drop size text ≡ get_or text size 0 ∷ drop (size + 1) text = rw (add-one, drop-cons text size 0) refl in
    sym (take-append-drop size text) ∙ ap (λ (x : List ℕ). take size text ++ x) rest

-- stored bytes, their type, and the checksum of both
abbrev sealed : List ℕ → ℕ → List ℕ
sealed stored kind = stored ++ (kind ∷ seal (stored ++ kind ∷ []))

length-sealed : (stored : List ℕ) (kind : ℕ) → length (sealed stored kind) ≡ length stored + 5
unfolding seal
length-sealed stored kind = length-append stored (kind ∷ seal (stored ++ kind ∷ []))

sealed_is : (size : ℕ) (text : List ℕ) → length text ≡ size + 5 → bytes_eq (drop (size + 1) text) (seal (take (size + 1) text)) ≡ true → text ≡ sealed (take size text) (get_or text size 0)
sealed_is size text len right =
    let covered = take (size + 1) text in
    let stored = take size text in
    let kind = get_or text size 0 in
    let parts : text ≡ stored ++ (kind ∷ drop (size + 1) text) = cell text size (omega arith) in
    let long : length stored ≡ size = length-take-le size text (omega arith) in
    let front : text ≡ (stored ++ kind ∷ []) ++ drop (size + 1) text = parts ∙ sym (append_assoc stored (kind ∷ []) (drop (size + 1) text)) in
    let cover : covered ≡ stored ++ kind ∷ [] = ap (take (size + 1)) front ∙ take_at (stored ++ kind ∷ []) (drop (size + 1) text) (size + 1) (omega (arith, length-append stored (kind ∷ []), long)) in
    let sum : drop (size + 1) text ≡ seal (stored ++ kind ∷ []) = plain.same_bytes (drop (size + 1) text) (seal covered) right ∙ ap seal cover in
    parts ∙ ap (λ (x : List ℕ). stored ++ (kind ∷ x)) sum

-- ---- by the type

snappy_ok : (offset : ℕ) (r : Result (List ℕ) SnappyFault) (contents : List ℕ) → snappy_or offset r ≡ Ok contents → r ≡ Ok contents
snappy_ok offset (Ok p) contents e = let same = ok_is p contents e in ap (λ (x : List ℕ). Ok x) same
snappy_ok offset (Err snappy.OutOfMemory) contents e = absurd cc
snappy_ok offset (Err (snappy.BadSnappy cause)) contents e = absurd cc

other : (small : Bool) (n : ℕ) → eqb (suc (suc n)) 1 ≡ false → is_snappy (cond small (fault.Compressed (suc (suc n))) (fault.BadBlockType (suc (suc n)))) ≡ false
other true n h = h
other false n h = refl

others : (n : ℕ) → is_snappy (kind_fault (suc (suc n))) ≡ false
others n = other (leb (suc (suc n)) 2) n (ne_eqb (suc (suc n)) 1 (λ h. absurd (omega (arith, h))))

-- what is read where the checksum is right or not, by the type
abbrev by_kind : Bool → ℕ → ℕ → List ℕ → Result (List ℕ) InflateFault
by_kind right offset kind stored = expanded offset stored (judged right (fault.BadChecksum offset) (judged (eqb kind 0) (kind_fault kind) (Ok stored)))

by_other : (offset n : ℕ) (stored : List ℕ) → by_kind true offset (suc (suc n)) stored ≡ Err (Table (kind_fault (suc (suc n))))
by_other offset n stored =
    let none : eqb (suc (suc n)) 0 ≡ false = ne_eqb (suc (suc n)) 0 (λ h. absurd (omega (arith, h))) in
    let no = others n in
    rw (none, no) refl

by_kind_takes : (right : Bool) (offset kind : ℕ) (stored contents : List ℕ) → IsBytes stored → by_kind right offset kind stored ≡ Ok contents → (right ≡ true) × StandFor kind stored contents
by_kind_takes false offset kind stored contents fits e = absurd cc
by_kind_takes true offset zero stored contents fits e = (refl, sym (ok_is stored contents e))
by_kind_takes true offset (suc zero) stored contents fits e = (refl, (plain_takes stored contents fits (snappy_ok offset (plain_at stored) contents e)).is)
by_kind_takes true offset (suc (suc n)) stored contents fits e = let bad = sym (by_other offset n stored) ∙ e in absurd cc

by_kind_again : (offset kind : ℕ) (stored contents : List ℕ) → IsBytes stored → StandFor kind stored contents → by_kind true offset kind stored ≡ Ok contents
by_kind_again offset zero stored contents fits s = ap (λ (x : List ℕ). done x) (sym s)
by_kind_again offset (suc zero) stored contents fits s = let p = plain_again stored contents fits s in rw p refl
by_kind_again offset (suc (suc n)) stored contents fits s = absurd s

-- ---- a text of a block

packed_takes : (offset size : ℕ) (text contents : List ℕ) → IsBytes text → length text ≡ size + 5 → packed_at offset size text ≡ Ok contents
    → (text ≡ sealed (take size text) (get_or text size 0)) × StandFor (get_or text size 0) (take size text) contents
unfolding packed_at unsealed
packed_takes offset size text contents fits len e =
    let both = by_kind_takes (bytes_eq (drop (size + 1) text) (seal (take (size + 1) text))) offset (get_or text size 0) (take size text) contents (IsBytes-take size text fits) e in
    (sealed_is size text len both.0, both.1)

packed_again : (offset size kind : ℕ) (stored contents : List ℕ) → IsBytes stored → StandFor kind stored contents → length stored ≡ size → packed_at offset size (sealed stored kind) ≡ Ok contents
unfolding packed_at unsealed
packed_again offset size kind stored contents fits s len =
    let sum = seal (stored ++ kind ∷ []) in
    let text = sealed stored kind in
    let front : text ≡ (stored ++ kind ∷ []) ++ sum = sym (append_assoc stored (kind ∷ []) sum) in
    let one : length (stored ++ kind ∷ []) ≡ size + 1 = omega (arith, length-append stored (kind ∷ []), len) in
    let covered : take (size + 1) text ≡ stored ++ kind ∷ [] = ap (take (size + 1)) front ∙ take_at (stored ++ kind ∷ []) sum (size + 1) one in
    let after : drop (size + 1) text ≡ sum = ap (drop (size + 1)) front ∙ drop_at (stored ++ kind ∷ []) sum (size + 1) one in
    let found : take size text ≡ stored = take_at stored (kind ∷ sum) size len in
    let rest : drop size text ≡ kind ∷ sum = drop_at stored (kind ∷ sum) size len in
    let long : size < length text = omega (arith, length-sealed stored kind, len) in
    let here : drop size text ≡ get_or text size 0 ∷ drop (size + 1) text = rw (add-one, drop-cons text size 0) refl in
    let is : get_or text size 0 ≡ kind = cc in
    let right : bytes_eq (drop (size + 1) text) (seal (take (size + 1) text)) ≡ true = plain.bytes_same _ _ (after ∙ ap seal (sym covered)) in
    rw (right, is, found) (by_kind_again offset kind stored contents fits s)

-- ---- the block at a handle

pub contents_takes : (body : List ℕ) (handle : Handle) (contents : List ℕ) → IsBytes body → contents_at body handle ≡ Ok contents → HoldsPacked body handle contents
unfolding contents_at
contents_takes body handle contents fits e =
    let rest = drop handle.offset body in
    let text = take (handle.size + 5) rest in
    let g1 = guard_ok (leb (handle.offset + handle.size + 5) (length body)) (Table fault.BadHandle) _ contents e in
    let room : handle.offset + handle.size + 5 ≤ length body = leb-true _ _ g1.0 in
    let rest_len = length-drop handle.offset body in
    let text_len : length text ≡ handle.size + 5 = length-take-le (handle.size + 5) rest (omega (arith, rest_len)) in
    let u = packed_takes handle.offset handle.size text contents (IsBytes-take (handle.size + 5) rest (IsBytes-drop handle.offset body fits)) text_len g1.1 in
    let stored = take handle.size text in
    let kind = get_or text handle.size 0 in
    let tail = kind ∷ seal (stored ++ kind ∷ []) in
    record {
      before = take handle.offset body;
      stored = stored;
      kind = kind;
      after = drop (handle.size + 5) rest;
      stand_for = u.1;
      offset_is = length-take-le handle.offset body (omega arith);
      size_is = length-take-le handle.size text (omega (arith, text_len));
      body_is = sym (take-append-drop handle.offset body) ∙ ap (λ (x : List ℕ). take handle.offset body ++ x)
          (sym (take-append-drop (handle.size + 5) rest) ∙ ap (λ (x : List ℕ). x ++ drop (handle.size + 5) rest) u.0 ∙ append_assoc stored tail (drop (handle.size + 5) rest));
    }

pub contents_again : (body : List ℕ) (handle : Handle) (contents : List ℕ) → IsBytes body → HoldsPacked body handle contents → contents_at body handle ≡ Ok contents
unfolding contents_at
contents_again body handle contents fits h =
    let tail = h.kind ∷ seal (h.stored ++ h.kind ∷ []) in
    let all = h.stored ++ (tail ++ h.after) in
    let grouped : all ≡ sealed h.stored h.kind ++ h.after = sym (append_assoc h.stored tail h.after) in
    let own = length-sealed h.stored h.kind in
    let len : length body ≡ handle.offset + handle.size + 5 + length h.after =
    omega (arith, ap length h.body_is, length-append h.before all, ap length grouped, length-append (sealed h.stored h.kind) h.after, own, h.offset_is, h.size_is) in
    let room : leb (handle.offset + handle.size + 5) (length body) ≡ true = le-leb _ _ (omega (arith, len)) in
    let rest : drop handle.offset body ≡ sealed h.stored h.kind ++ h.after = ap (drop handle.offset) h.body_is ∙ drop_at h.before all handle.offset h.offset_is ∙ grouped in
    let text : take (handle.size + 5) (drop handle.offset body) ≡ sealed h.stored h.kind = ap (take (handle.size + 5)) rest ∙ take_at (sealed h.stored h.kind) h.after (handle.size + 5) (omega (arith, own, h.size_is)) in
    let stored_fits = IsBytes-front all h.stored (tail ++ h.after) refl (IsBytes-after body h.before all h.body_is fits) in
    let read = packed_again handle.offset handle.size h.kind h.stored contents stored_fits h.stand_for h.size_is in
    rw (room, text) read

-- ---- contents are bytes

stand_fit : (kind : ℕ) (stored contents : List ℕ) → IsBytes stored → StandFor kind stored contents → IsBytes contents
stand_fit zero stored contents fits s = subst IsBytes (sym s) fits
stand_fit (suc zero) stored contents fits s = plain_fits stored contents fits s
stand_fit (suc (suc n)) stored contents fits s = absurd s

pub contents_fit : (body : List ℕ) (handle : Handle) (contents : List ℕ) → IsBytes body → HoldsPacked body handle contents → IsBytes contents
contents_fit body handle contents fits h =
    let tail = (h.kind ∷ seal (h.stored ++ h.kind ∷ [])) ++ h.after in
    stand_fit h.kind h.stored contents (IsBytes-front (h.stored ++ tail) h.stored tail refl (IsBytes-after body h.before (h.stored ++ tail) h.body_is fits)) h.stand_for
