-- Outputs that are put one after another.
use Rattle.std.proofs.Common.{◌≡◌, ℕ, Bool, false, cond, List, [], ◌∷◌, ◌++◌, Option, Some, None, map, refl, sym, ◌∙◌, ap, subst, append-nil, inl, inr}
use Rattle.std.specs.Prelude.{Result, Ok, Err, OnErr, OnOk}
use Rattle.lsm_codec.specs.Lists.{Has}
use Rattle.lsm_codec.specs.Keys.{IsKey}
use Rattle.lsm_codec.specs.Entries.{Entry, internal_key}
use Rattle.lsm_codec.proofs.CallerLemmas.{has_cases}
use Rattle.lsm_shelf.proofs.CallerLemmas.{becomes_then}
use Rattle.lsm_shelf.specs.Told.{Told, Becomes, putting}
use Rattle.lsm_table.specs.Registry.{Table}
use Rattle.lsm_table.specs.Table.{IsTable, IsImage}
use Rattle.lsm_table.specs.HeldTable.{entries_in}
use Rattle.lsm_table.specs.declared.table_options.TableOptions.{TableOptions}
use Rattle.lsm_version.specs.Versions.{IsWhole}
use Rattle.lsm_merge.specs.Causes.{DrewMore}
use Rattle.lsm_merge.specs.Cuts.{is_empty}
use Rattle.lsm_merge.specs.Dropping.{closed}
use Rattle.lsm_merge.specs.Outputs.{AreGood, Goes, IsPut, PutsEach, PutsMore, PutsTables, Unfinished, drawn_of, entries_of_last, going, making_of, putting_all}
use Rattle.lsm_merge.specs.Work.{IsBuilt, contents_of, puts_of}

pub going_snoc : (ns : List ℕ) (n : ℕ) (there : List ℕ) → going (ns ++ n ∷ []) there ≡ n ∷ going ns there
going_snoc [] n there = refl
going_snoc (m ∷ ns) n there = going_snoc ns n (m ∷ there)

pub drew_put : (put put' : List ℕ) (n : ℕ) (there : List ℕ) → put' ≡ put ++ n ∷ [] → DrewMore put' (n ∷ going put there) there
drew_put put put' n there e = inl (sym (ap (λ (p : List ℕ). going p there) e ∙ going_snoc put n there))

-- ---- what the shelf was told

pub each_none : (ns : List ℕ) (t u : Told) → ns ≡ [] → Becomes t u → PutsEach ns t u
each_none ns t u none b = record { tables = []; numbers_are = sym none; told = b }

pub puts_none : (ns ns' : List ℕ) (t u : Told) → ns' ≡ ns → Becomes t u → PutsMore ns ns' t u
puts_none ns ns' t u same b = record { more = []; grown = same ∙ sym (append-nil ns); told = each_none [] t u refl b }

pub puts_once : (ns ns' : List ℕ) (n : ℕ) (image : List ℕ) (t u : Told) → ns' ≡ ns ++ n ∷ [] → Becomes (putting n image t) u → PutsMore ns ns' t u
puts_once ns ns' n image t u grown b = record { more = n ∷ []; grown = grown; told = record { tables = (n, image) ∷ []; numbers_are = refl; told = b } }

pub puts_after : (ns ns' : List ℕ) (t u v : Told) → PutsMore ns ns' t u → Becomes u v → PutsMore ns ns' t v
puts_after ns ns' t u v p b = record {
  more = p.more;
  grown = p.grown;
  told = record { tables = (p.told).tables; numbers_are = (p.told).numbers_are; told = becomes_then (putting_all (p.told).tables t) u v (p.told).told b };
}

pub tables_none : (ts ts' : List Table) (t u : Told) → ts' ≡ ts → Becomes t u → PutsTables ts ts' t u
tables_none ts ts' t u same b = record { more = []; grown = same ∙ sym (append-nil ts); told = b }

pub tables_after : (ts ts' : List Table) (t u v : Told) → PutsTables ts ts' t u → Becomes u v → PutsTables ts ts' t v
tables_after ts ts' t u v p b = record { more = p.more; grown = p.grown; told = becomes_then (putting_all (puts_of p.more) t) u v p.told b }

pub tables_once : (ts ts' : List Table) (x : Table) (n : ℕ) (image : List ℕ) (t u : Told) → ts' ≡ ts ++ x ∷ [] → x.number ≡ n → x.image ≡ image → Becomes (putting n image t) u → PutsTables ts ts' t u
tables_once ts ts' x n image t u grown number is b = record {
  more = x ∷ [];
  grown = grown;
  told = subst (λ (m : ℕ). Becomes (putting m x.image t) u) (sym number) (subst (λ (i : List ℕ). Becomes (putting n i t) u) (sym is) b);
}

-- ---- what was put

-- the law of records that stand for a table
abbrev pub AreWholeTables : Type 0
AreWholeTables = (t : Table) (e : Entry) (rest : List Entry) (front : List Entry) (l : Entry) → IsTable t.image (e ∷ rest) → e ∷ rest ≡ front ++ l ∷ []
    → IsKey t.smallest (internal_key e) → IsKey t.largest (internal_key l) → IsWhole t

pub whole_of : AreWholeTables → (t : Table) (es : List Entry) (smallest largest image : List ℕ) → IsImage es smallest largest image
    → t.smallest ≡ smallest → t.largest ≡ largest → t.image ≡ image → IsWhole t
whole_of law t es smallest largest image i a b c =
    law t i.first i.rest i.front i.last
    (subst (λ (bytes : List ℕ). IsTable bytes (i.first ∷ i.rest)) (sym c) (subst (IsTable image) i.begins i.table))
    (sym i.begins ∙ i.ends)
    (subst (λ (k : List ℕ). IsKey k (internal_key i.first)) (sym a) i.smallest_is)
    (subst (λ (k : List ℕ). IsKey k (internal_key i.last)) (sym b) i.largest_is)

pub contents_snoc : (ts : List Table) (t : Table) → contents_of (ts ++ t ∷ []) ≡ contents_of ts ++ entries_in t.image ∷ []
contents_snoc [] t = refl
contents_snoc (u ∷ ts) t = ap (λ (l : List (List Entry)). entries_in u.image ∷ l) (contents_snoc ts t)

pub numbers_snoc : (ts : List Table) (t : Table) → map (λ (u : Table). u.number) (ts ++ t ∷ []) ≡ map (λ (u : Table). u.number) ts ++ t.number ∷ []
numbers_snoc [] t = refl
numbers_snoc (u ∷ ts) t = ap (λ (l : List ℕ). u.number ∷ l) (numbers_snoc ts t)

filled_first : (es : List Entry) → (es ≡ [] → ⊥) → is_empty es ≡ false
filled_first [] h = absurd (h refl)
filled_first (e ∷ es) h = refl

pub put_goes : (ticket : ℕ) (options : TableOptions) (target : ℕ) (tables tables' : List Table) (put put' : List ℕ) (o : Unfinished) (last last' : Option Unfinished)
    → last ≡ Some o → last' ≡ None
    → AreGood (record { ticket = ticket; options = options; target = target; tables = tables; put = put; last = last })
    → IsPut o tables tables' put put'
    → Goes (record { ticket = ticket; options = options; target = target; tables = tables; put = put; last = last })
    (record { ticket = ticket; options = options; target = target; tables = tables'; put = put'; last = last' })
    (record { outputs = closed (making_of (record { ticket = ticket; options = options; target = target; tables = tables; put = put; last = last })); output = [] })
put_goes ticket options target tables tables' put put' o None last' at none good p = absurd (cc at)
put_goes ticket options target tables tables' put put' o (Some q) (Some r) at none good p = absurd (cc none)
put_goes ticket options target tables tables' put put' o (Some q) None at none good p = record {
  sizes = record { ticket = refl; options = refl; target = refl };
  good = record {
    in_range = good.in_range;
    whole = λ t h. elim (has_cases tables (p.table ∷ []) t (subst (λ (ts : List Table). Has ts t) p.tables_are h)) [
      | inl old ↦ good.whole t old
      | inr new ↦ elim new [ inl is ↦ subst IsWhole is p.whole | inr nothing ↦ absurd nothing ]
    ];
    built = λ t h. elim (has_cases tables (p.table ∷ []) t (subst (λ (ts : List Table). Has ts t) p.tables_are h)) [
      | inl old ↦ good.built t old
      | inr new ↦ elim new [ inl is ↦ subst (IsBuilt options) is (subst (λ (s : TableOptions). IsBuilt s p.table) (sym sizes ∙ (good.written).0) p.built) | inr nothing ↦ absurd nothing ]
    ];
    numbers = ap (map (λ (t : Table). t.number)) p.tables_are ∙ numbers_snoc tables p.table
        ∙ ap (λ (ns : List ℕ). ns ++ (p.table).number ∷ []) good.numbers ∙ ap (λ (n : ℕ). put ++ n ∷ []) p.number ∙ sym p.put_are;
    written = tt;
  };
  is = ap (λ (ls : List (List Entry)). record { outputs = ls; output = [] }) (
      ap contents_of p.tables_are ∙ contents_snoc tables p.table ∙ ap (λ (es : List Entry). contents_of tables ++ es ∷ []) (p.entries ∙ sym same)
      ∙ ap (λ (b : Bool). cond b (contents_of tables) (contents_of tables ++ q.entries ∷ [])) (sym (filled_first q.entries (good.written).1)));
}
  where
    same : q.entries ≡ o.entries
    same = ap (λ (u : Option Unfinished). entries_of_last u) at

    sizes : q.options ≡ o.options
    sizes = (let z : q ≡ o = (cc at) in ap (λ (u : Unfinished). u.options) z)

pub put_drawn : (ticket : ℕ) (options : TableOptions) (target : ℕ) (tables tables' : List Table) (put put' : List ℕ) (o : Unfinished) (last last' : Option Unfinished)
    → last ≡ Some o → last' ≡ None → IsPut o tables tables' put put' → (there : List ℕ)
    → drawn_of (record { ticket = ticket; options = options; target = target; tables = tables'; put = put'; last = last' }) there
    ≡ drawn_of (record { ticket = ticket; options = options; target = target; tables = tables; put = put; last = last }) there
put_drawn ticket options target tables tables' put put' o None last' at none p there = absurd (cc at)
put_drawn ticket options target tables tables' put put' o (Some q) (Some r) at none p there = absurd (cc none)
put_drawn ticket options target tables tables' put put' o (Some q) None at none p there =
    ap (λ (ns : List ℕ). going ns there) p.put_are ∙ going_snoc put o.number there ∙ ap (λ (n : ℕ). n ∷ going put there) (sym same)
  where
    same : q.number ≡ o.number
    same = (let z : q ≡ o = (cc at) in ap (λ (u : Unfinished). u.number) z)

pub on_ok : {A E P Q : Type 0} (r : Result A E) → (P → Q) → OnOk r P → OnOk r Q
on_ok (Ok x) f h = f h
on_ok (Err e) f h = tt

pub ok_if : {A E P : Type 0} (r : Result A E) → P → OnOk r P
ok_if (Ok x) p = p
ok_if (Err e) p = tt

pub on_err : {A E P Q : Type 0} (r : Result A E) → (P → Q) → OnErr r P → OnErr r Q
on_err (Ok x) f h = tt
on_err (Err e) f h = f h

pub err_if : {A E P : Type 0} (r : Result A E) → P → OnErr r P
err_if (Ok x) p = tt
err_if (Err e) p = p
