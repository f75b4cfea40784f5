-- What a read finds in the bytes of any image.
use Rattle.std.proofs.Common.{◌≡◌, ℕ, ◌-◌, ◌^◌, min, true, false, List, [], ◌∷◌, Option, Some, None, Result, Ok, Err, refl, sym, ap, ◌∙◌, subst}
use Rattle.lsm_codec.specs.Keys.{UserKey, InternalKey}
use Rattle.lsm_codec.specs.Entries.{Entry, internal_key}
use Rattle.lsm_block.specs.Block.{entry_of}
use Rattle.lsm_block.specs.Seeking.{not_below}
use Rattle.lsm_block.specs.Standing.{is_end, but_first, key_of_first, value_of_first}
use Rattle.lsm_table.specs.declared.table_fault.TableFault.{TableFault}
use Rattle.lsm_table.specs.declared.table_fault.TableFault.TheVariants.{BadIndex}
use Rattle.lsm_table.specs.declared.read_fault.ReadFault.{ReadFault}
use Rattle.lsm_table.specs.declared.read_fault.ReadFault.TheVariants.{Shelf, Table}
use Rattle.lsm_table.specs.Reading.{◌>>=◌}
use Rattle.lsm_table.specs.Footer.{body_of}
use Rattle.lsm_table.specs.Found.{found_in}
use Rattle.lsm_table.specs.OpenTable.{opening_at, block_named}
use Rattle.lsm_table.specs.Searching.{read_key, of_user}
use Rattle.lsm_table.proofs.CallerLemmas.{done}
use Rattle.lsm_reader.specs.Blocks.{Reads}
use Rattle.lsm_reader.specs.Getting.{or_later, entered_there, first_entered, sought_there, first_named, got_by, got}
use Rattle.lsm_reader.proofs.OpeningLaws.{reads_on}

abbrev pub entries_read : Type 0
entries_read = Result (List Entry) TableFault

through : (r : entries_read) (key : InternalKey) (later : entries_read) → (r >>= λ es. or_later (not_below key es) later) ≡ ((r >>= λ es. done (not_below key es)) >>= λ es. or_later es later)
through (Ok es) key later = refl
through (Err fault) key later = refl

first_step : (key : InternalKey) (body : List ℕ) (index : List Entry) → is_end index ≡ false → first_named key body index ≡ (sought_there key body index >>= λ es. or_later es (first_named key body (but_first index)))
unfolding first_named
first_step key body [] h = absurd cc
first_step key body (i ∷ index) h = through (block_named body i.value) key (first_named key body index)

later_some : (es : List Entry) (later : entries_read) → is_end es ≡ false → or_later es later ≡ Ok es
later_some [] later h = absurd cc
later_some (e ∷ es) later h = refl

later_none : (es : List Entry) (later : entries_read) → is_end es ≡ true → or_later es later ≡ later
later_none [] later h = refl
later_none (e ∷ es) later h = absurd cc

-- ---- one block of a search

pub there_is : (key : InternalKey) (body place : List ℕ) (index es here : List Entry) → place ≡ value_of_first index → block_named body place ≡ Ok es → here ≡ not_below key es → sought_there key body index ≡ Ok here
there_is key body place index es here p b h =
    ap (λ (v : List ℕ). block_named body v >>= λ xs. done (not_below key xs)) (sym p) ∙ ap (λ (r : entries_read). r >>= λ xs. done (not_below key xs)) b ∙ ap (λ (xs : List Entry). done xs) (sym h)

pub there_fails : {X Z : Type 0} (see : X → List Entry) (see' : Z → List Entry) (e : ReadFault) (key : InternalKey) (body place : List ℕ) (index : List Entry) → place ≡ value_of_first index → Reads see (Err e) (block_named body place) → Reads see' (Err e) (sought_there key body index)
there_fails see see' e key body place index p r =
    subst (λ (v : List ℕ). Reads see' (Err e) (block_named body v >>= λ xs. done (not_below key xs))) p (reads_on see see' e (block_named body place) (λ xs. done (not_below key xs)) r)

-- ---- going on, whatever the image is

pub entered_fails : {X Z : Type 0} (see : X → List Entry) (see' : Z → List Entry) (e : ReadFault) (body place : List ℕ) → Reads see (Err e) (block_named body place) → Reads see' (Err e) (entered_there body place)
entered_fails see see' e body place r = reads_on see see' e (block_named body place) (λ es. or_later es (Err BadIndex)) r

entered_is : (body place : List ℕ) (es here : List Entry) → block_named body place ≡ Ok es → here ≡ es → entered_there body place ≡ or_later here (Err BadIndex)
entered_is body place es here b same = ap (λ (r : entries_read). r >>= λ xs. or_later xs (Err BadIndex)) b ∙ ap (λ (xs : List Entry). or_later xs (Err BadIndex)) (sym same)

pub entered_none : (body place : List ℕ) (es here : List Entry) → block_named body place ≡ Ok es → here ≡ es → is_end here ≡ true → entered_there body place ≡ Err BadIndex
entered_none body place es here b same h = entered_is body place es here b same ∙ later_none here (Err BadIndex) h

pub entered_some : (body place : List ℕ) (es here : List Entry) → block_named body place ≡ Ok es → here ≡ es → is_end here ≡ false → entered_there body place ≡ Ok here
entered_some body place es here b same h = entered_is body place es here b same ∙ later_some here (Err BadIndex) h

pub first_is_end : (body : List ℕ) (index whole : List Entry) → index ≡ whole → is_end index ≡ true → first_entered body whole ≡ Ok []
first_is_end body [] whole same h = ap (first_entered body) (sym same)
first_is_end body (i ∷ index) whole same h = absurd cc

first_there : (body place : List ℕ) (index : List Entry) → is_end index ≡ false → place ≡ value_of_first index → first_entered body index ≡ entered_there body place
first_there body place [] h p = absurd cc
first_there body place (i ∷ index) h p = ap (entered_there body) (sym p)

pub fails_as : {X Z Y : Type 0} (see : X → Y) (see' : Z → Y) (e : ReadFault) (r : Result Y TableFault) → Reads see (Err e) r → Reads see' (Err e) r
fails_as see see' (Shelf fault) r h = tt
fails_as see see' (Table fault) r h = h

pub first_fails : {X Z : Type 0} (see : X → List Entry) (see' : Z → List Entry) (e : ReadFault) (body place : List ℕ) (index whole : List Entry) → index ≡ whole → is_end index ≡ false → place ≡ value_of_first index
    → Reads see (Err e) (entered_there body place) → Reads see' (Err e) (first_entered body whole)
first_fails see see' e body place index whole same h p f = subst (λ (x : entries_read). Reads see' (Err e) x) (sym (ap (first_entered body) (sym same) ∙ first_there body place index h p)) (fails_as see see' e (entered_there body place) f)

pub first_is : (body place : List ℕ) (index whole here : List Entry) → index ≡ whole → is_end index ≡ false → place ≡ value_of_first index → entered_there body place ≡ Ok here → first_entered body whole ≡ Ok here
first_is body place index whole here same h p e = ap (first_entered body) (sym same) ∙ first_there body place index h p ∙ e

-- ---- a search, where it has come to these index entries of the whole

pub search_fails : {X Z : Type 0} (see : X → List Entry) (see' : Z → List Entry) (e : ReadFault) (key : InternalKey) (body : List ℕ) (whole index : List Entry) → first_named key body whole ≡ first_named key body index → is_end index ≡ false
    → Reads see (Err e) (sought_there key body index) → Reads see' (Err e) (first_named key body whole)
search_fails see see' e key body whole index same some r =
    subst (λ (x : entries_read). Reads see' (Err e) x) (sym (same ∙ first_step key body index some)) (reads_on see see' e (sought_there key body index) (λ es. or_later es (first_named key body (but_first index))) r)

step_is : (key : InternalKey) (body : List ℕ) (whole index here : List Entry) → first_named key body whole ≡ first_named key body index → is_end index ≡ false → sought_there key body index ≡ Ok here
    → first_named key body whole ≡ or_later here (first_named key body (but_first index))
step_is key body whole index here same some there =
    same ∙ first_step key body index some ∙ ap (λ (r : entries_read). r >>= λ es. or_later es (first_named key body (but_first index))) there

pub search_found : (key : InternalKey) (body : List ℕ) (whole index here : List Entry) → first_named key body whole ≡ first_named key body index → is_end index ≡ false → sought_there key body index ≡ Ok here → is_end here ≡ false
    → first_named key body whole ≡ Ok here
search_found key body whole index here same some there h = step_is key body whole index here same some there ∙ later_some here _ h

pub search_goes_on : (key : InternalKey) (body : List ℕ) (whole index new here : List Entry) → first_named key body whole ≡ first_named key body index → is_end index ≡ false → sought_there key body index ≡ Ok here → is_end here ≡ true → new ≡ but_first index
    → first_named key body whole ≡ first_named key body new
search_goes_on key body whole index new here same some there h n =
    step_is key body whole index here same some there ∙ later_none here _ h ∙ ap (first_named key body) (sym n)

pub search_ends : (key : InternalKey) (body : List ℕ) (whole index : List Entry) → first_named key body whole ≡ first_named key body index → is_end index ≡ true → first_named key body whole ≡ Ok []
unfolding first_named
search_ends key body whole [] same h = same
search_ends key body whole (i ∷ index) same h = absurd cc

-- ---- what it says of the user

abbrev pub nothing_got : Option (Option (List ℕ))
nothing_got = None

abbrev found_read : Type 0
found_read = Result (Option (Option (List ℕ))) TableFault

abbrev got_with : InternalKey → List ℕ → UserKey → List Entry → found_read
got_with key body k index = first_named key body (not_below key index) >>= λ es. Ok (found_in (of_user k es))

with_key : (key : InternalKey) (body : List ℕ) (k : UserKey) (seq : ℕ) (index : List Entry) → key ≡ read_key k (min seq (2 ^ 56 - 1)) → got_by body k seq index ≡ got_with key body k index
with_key key body k seq index is = ap (λ (x : InternalKey). got_with x body k index) (sym is)

pub got_fails : {X Z : Type 0} (see : X → List Entry) (see' : Z → Option (Option (List ℕ))) (e : ReadFault) (key : InternalKey) (body : List ℕ) (k : UserKey) (seq : ℕ) (index : List Entry) → key ≡ read_key k (min seq (2 ^ 56 - 1))
    → Reads see (Err e) (first_named key body (not_below key index)) → Reads see' (Err e) (got_by body k seq index)
got_fails see see' e key body k seq index is r =
    subst (λ (x : found_read). Reads see' (Err e) x) (sym (with_key key body k seq index is)) (reads_on see see' e (first_named key body (not_below key index)) (λ es. Ok (found_in (of_user k es))) r)

got_there : (key : InternalKey) (body : List ℕ) (k : UserKey) (seq : ℕ) (index here : List Entry) → key ≡ read_key k (min seq (2 ^ 56 - 1)) → first_named key body (not_below key index) ≡ Ok here → got_by body k seq index ≡ Ok (found_in (of_user k here))
got_there key body k seq index here is r = with_key key body k seq index is ∙ ap (λ (x : entries_read). x >>= λ es. Ok (found_in (of_user k es))) r

pub none_here : (k : UserKey) (here : List Entry) → key_of_first here ≡ None → found_in (of_user k here) ≡ nothing_got
none_here k [] h = refl
none_here k (e ∷ es) h = absurd cc

pub some_here : (k : UserKey) (first : InternalKey) (value : List ℕ) (here : List Entry) → Some first ≡ key_of_first here → value ≡ value_of_first here → found_in (of_user k (entry_of first value ∷ [])) ≡ found_in (of_user k here)
some_here k first value [] f v = absurd cc
some_here k first value (e ∷ es) f v = let same : first ≡ internal_key e = cc in rw (same, v) refl

pub got_said : (key : InternalKey) (body : List ℕ) (k : UserKey) (seq : ℕ) (index here : List Entry) (said : Option (Option (List ℕ))) → key ≡ read_key k (min seq (2 ^ 56 - 1)) → first_named key body (not_below key index) ≡ Ok here → said ≡ found_in (of_user k here)
    → got_by body k seq index ≡ Ok said
got_said key body k seq index here said is r s =
    got_there key body k seq index here is r ∙ ap (λ (x : Option (Option (List ℕ))). Ok x) (sym s)

-- ---- from the footer on

pub got_opening : {X Z : Type 0} (see : X → List Entry) (see' : Z → Option (Option (List ℕ))) (e : ReadFault) (image : List ℕ) (k : UserKey) (seq : ℕ) → Reads see (Err e) (opening_at image) → Reads see' (Err e) (got image k seq)
unfolding got
got_opening see see' e image k seq r = reads_on see see' e (opening_at image) (λ index. got_by (body_of image) k seq index) r

pub got_then : (image : List ℕ) (k : UserKey) (seq : ℕ) (index : List Entry) → opening_at image ≡ Ok index → got_by (body_of image) k seq index ≡ got image k seq
unfolding got
got_then image k seq index o = sym (ap (λ (r : entries_read). r >>= λ xs. got_by (body_of image) k seq xs) o)
