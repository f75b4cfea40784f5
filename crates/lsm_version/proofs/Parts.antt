-- Parts of a sound version.
use Rattle.std.proofs.Common.{ℕ, suc, List, ◌∷◌, subst}
use Rattle.lsm_codec.specs.Lists.{Has}
use Rattle.lsm_codec.proofs.CallerLemmas.{has_left, has_right}
use Rattle.lsm_table.specs.Registry.{Table}
use Rattle.lsm_model.specs.Files.{File, IsLawful}
use Rattle.lsm_version.specs.Versions.{files_of, files_from}
use Rattle.lsm_version.specs.Reads.{IsSoundLevel, AreSound}
use Rattle.lsm_version.proofs.ChangedFiles.{files_has, has_files}
use Rattle.lsm_version.proofs.Placing.{EachAfter, sorted_after}

pub lawful_part : (v w : List File) → ((F : File) → Has w F → Has v F) → IsLawful v → IsLawful w
lawful_part v w part l = record {
  fits = λ F h. l.fits F (part F h);
  numbers = λ F G h g. l.numbers F G (part F h) (part G g);
  in_order = λ F G h g. l.in_order F G (part F h) (part G g);
  depth = λ F G x y h g. l.depth F G x y (part F h) (part G g);
}

pub sound_level : (n : ℕ) (ts : List Table) (rest : List (List Table)) → AreSound n (ts ∷ rest) → IsSoundLevel n ts
sound_level n ts rest a = record {
  lawful = lawful_part (files_from n (ts ∷ rest)) (files_of n ts) (λ F h. has_left (files_of n ts) (files_from (suc n) rest) F h) a.lawful;
  whole = λ t h. a.whole 0 t h;
  order = a.order.0;
}

pub sound_rest : (n : ℕ) (ts : List Table) (rest : List (List Table)) → AreSound n (ts ∷ rest) → AreSound (suc n) rest
sound_rest n ts rest a = record {
  lawful = lawful_part (files_from n (ts ∷ rest)) (files_from (suc n) rest) (λ F h. has_right (files_of n ts) (files_from (suc n) rest) F h) a.lawful;
  whole = λ m t h. a.whole (suc m) t h;
  order = a.order.1;
}

pub sound_part : (n : ℕ) (ts us : List Table) → ((t : Table) → Has us t → Has ts t) → EachAfter us → IsSoundLevel n ts → IsSoundLevel n us
sound_part n ts us part after s = record {
  lawful = lawful_part (files_of n ts) (files_of n us) (λ F h. (let r = files_has n us F h in subst (Has (files_of n ts)) r.2 (has_files n ts r.0 (part r.0 r.1)))) s.lawful;
  whole = λ t h. s.whole t (part t h);
  order = sorted_after us after;
}
