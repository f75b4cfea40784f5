-- An ingest keeps the version lawful and the live jobs open.
use Rattle.std.proofs.Common.{◌≡◌, ℕ, ◌≤◌, ◌<◌, sym, ◌∙◌, ap, subst, inl, inr, arith, List}
use Rattle.std.specs.Prelude.{◌⊎◌}
use Rattle.lsm_codec.specs.Entries.{Entry}
use Rattle.lsm_codec.specs.Lists.{Has}
use Rattle.lsm_model.specs.Files.{File, Fits, InOrder, Shallower, IsLawful}
use Rattle.lsm_model.specs.Jobs.{Job, IsOpenIn, Gains}

pub ingest_lawful : (v w : List File) (file : File) (last : ℕ) → IsLawful v
    → ((F : File) (e : Entry) → Has v F → Has F.entries e → e.seq ≤ last) → Gains v last file w → IsLawful w
ingest_lawful v w file last l bounded g = record {
  fits = λ F h. elim (g.from F h) [ inl e ↦ subst Fits e g.fits | inr old ↦ l.fits F old ];
  numbers = λ F G hF hG e. numbers F G (g.from F hF) (g.from G hG) e;
  in_order = λ F G hF hG e pos ne. in_order F G (g.from F hF) (g.from G hG) e pos ne;
  depth = λ F G x y hF hG s kx ky same. depth F G x y (g.from F hF) (g.from G hG) s kx ky same;
}
  where
    number : (F : File) → file ≡ F → file.number ≡ F.number
    number F e = ap (λ (D : File). D.number) e

    is_level : (F : File) → file ≡ F → F.level ≡ 0
    is_level F e = ap (λ (D : File). D.level) (sym e) ∙ g.level

    numbers : (F G : File) → (file ≡ F) ⊎ Has v F → (file ≡ G) ⊎ Has v G → F.number ≡ G.number → F ≡ G
    numbers F G (inl a) (inl b) e = sym a ∙ b
    numbers F G (inl a) (inr b) e = (let n = number F a in let lt = g.greatest G b in absurd (omega arith))
    numbers F G (inr a) (inl b) e = (let n = number G b in let lt = g.greatest F a in absurd (omega arith))
    numbers F G (inr a) (inr b) e = l.numbers F G a b e

    in_order : (F G : File) → (file ≡ F) ⊎ Has v F → (file ≡ G) ⊎ Has v G → F.level ≡ G.level → 1 ≤ F.level → (F.number ≡ G.number → ⊥) → InOrder F G
    in_order F G (inl a) b e pos ne = (let z = is_level F a in absurd (omega arith))
    in_order F G (inr a) (inl b) e pos ne = (let z = is_level G b in absurd (omega arith))
    in_order F G (inr a) (inr b) e pos ne = l.in_order F G a b e pos ne

    new : (F : File) (x : Entry) → file ≡ F → Has F.entries x → last < x.seq
    new F x a h = g.above x (subst (λ (D : File). Has D.entries x) (sym a) h)

    depth : (F G : File) (x y : Entry) → (file ≡ F) ⊎ Has v F → (file ≡ G) ⊎ Has v G → Shallower F G → Has F.entries x → Has G.entries y → x.user ≡ y.user → y.seq < x.seq
    depth F G x y (inl a) (inl b) s kx ky same =
        let f = is_level F a in
        let z = is_level G b in
        let n = number F a in
        let m = number G b in
        absurd (elim s [ inl lt ↦ omega arith | inr o ↦ (let gt = o.2 in omega arith) ])
    depth F G x y (inl a) (inr b) s kx ky same = (let lt = new F x a kx in let le = bounded G y b ky in omega arith)
    depth F G x y (inr a) (inl b) s kx ky same =
        let z = is_level G b in
        let m = number G b in
        let lt = g.greatest F a in
        absurd (elim s [ inl lt ↦ omega arith | inr o ↦ (let gt = o.2 in omega arith) ])
    depth F G x y (inr a) (inr b) s kx ky same = l.depth F G x y a b s kx ky same

pub ingest_keeps_open : (v w : List File) (file : File) (last : ℕ) (job : Job) → IsOpenIn v job
    → ((F : File) (e : Entry) → Has v F → Has F.entries e → e.seq ≤ last) → Gains v last file w → IsOpenIn w job
ingest_keeps_open v w file last job o bounded g = record {
  inputs = λ F h. g.stays F (o.inputs F h);
  levels = o.levels;
  hull = o.hull;
  alone = λ F h at m. elim (g.from F h) [ inl e ↦ (let z = is_level F e in absurd (omega arith)) | inr old ↦ o.alone F old at m ];
  newer = λ F G x y h at out hG kx ky same. elim (g.from F h) [
    | inl e ↦ (let lt = new F x e kx in let le = bounded G y (o.inputs G hG) ky in omega arith)
    | inr old ↦ o.newer F G x y old at out hG kx ky same
  ];
  below = λ F G x y h at hG kx ky same. elim (g.from F h) [ inl e ↦ (let z = is_level F e in absurd (omega arith)) | inr old ↦ o.below F G x y old at hG kx ky same ];
}
  where
    is_level : (F : File) → file ≡ F → F.level ≡ 0
    is_level F e = ap (λ (D : File). D.level) (sym e) ∙ g.level

    new : (F : File) (x : Entry) → file ≡ F → Has F.entries x → last < x.seq
    new F x a h = g.above x (subst (λ (D : File). Has D.entries x) (sym a) h)
