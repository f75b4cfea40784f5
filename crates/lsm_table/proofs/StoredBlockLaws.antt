-- What is read as a stored block stands there, and what stands there is read.
use Rattle.std.proofs.Common.{◌≡◌, ℕ, ◌+◌, ◌<◌, ◌≤◌, true, leb, eqb, List, [], ◌∷◌, ◌++◌, length, get_or, take, drop, Ok, refl, sym, ap, ◌∙◌, subst, append_assoc, arith, add-one}
use Rattle.std.specs.Str.{bytes_eq}
use Rattle.std.proofs.Math.Seq.{drop-cons}
use Rattle.std.proofs.lemmas.Bool.{le-leb, leb-true, eqb-true}
use Rattle.std.proofs.lemmas.List.{take_at, drop_at, take-append-drop, length-append, length-drop, length-take-le}
use Rattle.lsm_table.specs.declared.table_fault.TableFault.TheVariants.{BadHandle, BadChecksum}
use Rattle.lsm_table.specs.declared.handle.Handle.{Handle}
use Rattle.lsm_table.specs.StoredBlock.{seal, trailer, stored, Holds, kind_fault, unsealed, contents_at}
use Rattle.lsm_table.proofs.ByteLists.{same_bytes, bytes_same}
use Rattle.lsm_table.proofs.ReadingLaws.{guard_ok, ok_is}

length-seal : (text : List ℕ) → length (seal text) ≡ 4
unfolding seal
length-seal text = refl

pub length-trailer : (contents : List ℕ) → length (trailer contents) ≡ 5
length-trailer contents = let four = length-seal (contents ++ 0 ∷ []) in omega (arith, four)

pub length-stored : (contents : List ℕ) → length (stored contents) ≡ length contents + 5
length-stored contents = omega (arith, length-append contents (trailer contents), length-trailer contents)

-- the byte at a place, between what stands before it and after it
cell : (text : List ℕ) (size : ℕ) → size < length text → text ≡ take size text ++ (get_or text size 0 ∷ drop (size + 1) text)
cell text size h =
    let rest : drop size text ≡ get_or text size 0 ∷ drop (size + 1) text = rw (add-one, drop-cons text size 0) refl in
    sym (take-append-drop size text) ∙ ap (λ (x : List ℕ). take size text ++ x) rest

-- a text of a block: its contents and the trailer
unsealed_takes : (offset size : ℕ) (text contents : List ℕ) → length text ≡ size + 5 → unsealed offset size text ≡ Ok contents → (text ≡ stored contents) × (length contents ≡ size)
unfolding unsealed
unsealed_takes offset size text contents len e =
    let covered = take (size + 1) text in
    let found = take size text in
    let g1 = guard_ok (bytes_eq (drop (size + 1) text) (seal covered)) (BadChecksum offset) _ contents e in
    let g2 = guard_ok (eqb (get_or text size 0) 0) (kind_fault (get_or text size 0)) (Ok found) contents g1.1 in
    let plain : get_or text size 0 ≡ 0 = eqb-true _ _ g2.0 in
    let same : found ≡ contents = ok_is found contents g2.1 in
    let parts : text ≡ found ++ (0 ∷ drop (size + 1) text) = cell text size (omega arith) ∙ ap (λ (k : ℕ). found ++ (k ∷ drop (size + 1) text)) plain in
    let found_len : length found ≡ size = length-take-le size text (omega arith) in
    let front : text ≡ (found ++ 0 ∷ []) ++ drop (size + 1) text = parts ∙ sym (append_assoc found (0 ∷ []) (drop (size + 1) text)) in
    let cover : covered ≡ found ++ 0 ∷ [] = ap (take (size + 1)) front ∙ take_at (found ++ 0 ∷ []) (drop (size + 1) text) (size + 1) (omega (arith, length-append found (0 ∷ []), found_len)) in
    let sealed : drop (size + 1) text ≡ seal (found ++ 0 ∷ []) = same_bytes (drop (size + 1) text) (seal covered) g1.0 ∙ ap seal cover in
    let whole : text ≡ stored found = parts ∙ ap (λ (x : List ℕ). found ++ (0 ∷ x)) sealed in
    subst (λ (x : List ℕ). (text ≡ stored x) × (length x ≡ size)) same (whole, found_len)

unsealed_again : (offset size : ℕ) (contents : List ℕ) → length contents ≡ size → unsealed offset size (stored contents) ≡ Ok contents
unfolding unsealed
unsealed_again offset size contents len =
    let sum = seal (contents ++ 0 ∷ []) in
    let text = stored contents in
    let front : text ≡ (contents ++ 0 ∷ []) ++ sum = sym (append_assoc contents (0 ∷ []) sum) in
    let one : length (contents ++ 0 ∷ []) ≡ size + 1 = omega (arith, length-append contents (0 ∷ []), len) in
    let covered : take (size + 1) text ≡ contents ++ 0 ∷ [] = ap (take (size + 1)) front ∙ take_at (contents ++ 0 ∷ []) sum (size + 1) one in
    let after : drop (size + 1) text ≡ sum = ap (drop (size + 1)) front ∙ drop_at (contents ++ 0 ∷ []) sum (size + 1) one in
    let found : take size text ≡ contents = take_at contents (0 ∷ sum) size len in
    let rest : drop size text ≡ 0 ∷ sum = drop_at contents (0 ∷ sum) size len in
    let long : size < length text = omega (arith, length-stored contents, len) in
    let here : drop size text ≡ get_or text size 0 ∷ drop (size + 1) text = rw (add-one, drop-cons text size 0) refl in
    let plain : get_or text size 0 ≡ 0 = cc in
    let right : bytes_eq (drop (size + 1) text) (seal (take (size + 1) text)) ≡ true = bytes_same _ _ (after ∙ ap seal (sym covered)) in
    rw (right, plain, found) refl

pub contents_takes : (body : List ℕ) (handle : Handle) (contents : List ℕ) → contents_at body handle ≡ Ok contents → Holds body handle contents
unfolding contents_at
contents_takes body handle contents e =
    let rest = drop handle.offset body in
    let text = take (handle.size + 5) rest in
    let g1 = guard_ok (leb (handle.offset + handle.size + 5) (length body)) BadHandle _ contents e in
    let room : handle.offset + handle.size + 5 ≤ length body = leb-true _ _ g1.0 in
    let rest_len = length-drop handle.offset body in
    let u = unsealed_takes handle.offset handle.size text contents (length-take-le (handle.size + 5) rest (omega (arith, rest_len))) g1.1 in
    record {
      before = take handle.offset body;
      after = drop (handle.size + 5) rest;
      offset_is = length-take-le handle.offset body (omega arith);
      size_is = u.1;
      body_is = sym (take-append-drop handle.offset body) ∙ ap (λ (x : List ℕ). take handle.offset body ++ x)
          (sym (take-append-drop (handle.size + 5) rest) ∙ ap (λ (x : List ℕ). x ++ drop (handle.size + 5) rest) u.0 ∙ append_assoc contents (trailer contents) (drop (handle.size + 5) rest));
    }

pub contents_again : (body : List ℕ) (handle : Handle) (contents : List ℕ) → Holds body handle contents → contents_at body handle ≡ Ok contents
unfolding contents_at
contents_again body handle contents h =
    let tail = contents ++ (trailer contents ++ h.after) in
    let grouped : tail ≡ stored contents ++ h.after = sym (append_assoc contents (trailer contents) h.after) in
    let own = length-stored contents in
    let len : length body ≡ handle.offset + handle.size + 5 + length h.after =
    omega (arith, ap length h.body_is, length-append h.before tail, ap length grouped, length-append (stored contents) h.after, own, h.offset_is, h.size_is) in
    let room : leb (handle.offset + handle.size + 5) (length body) ≡ true = le-leb _ _ (omega (arith, len)) in
    let rest : drop handle.offset body ≡ stored contents ++ h.after = ap (drop handle.offset) h.body_is ∙ drop_at h.before tail handle.offset h.offset_is ∙ grouped in
    let text : take (handle.size + 5) (drop handle.offset body) ≡ stored contents = ap (take (handle.size + 5)) rest ∙ take_at (stored contents) h.after (handle.size + 5) (omega (arith, own, h.size_is)) in
    let read = unsealed_again handle.offset handle.size contents h.size_is in
    rw (room, text) read
