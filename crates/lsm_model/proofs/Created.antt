-- A store that was just created has nothing of which the law says anything.
use Rattle.std.specs.Prelude.{[]}
use Rattle.lsm_model.specs.Files.{IsLawful}
use Rattle.lsm_model.specs.Plain.{created}
use Rattle.lsm_model.specs.Law.{Books, Law}

created_books : Books created
created_books = record {
  numbers = λ F G h g e. absurd h;
  below_next = λ F h. absurd h;
  drawn_below = λ a n h d. absurd h;
  drawn_fresh = λ a n F h d f e. h;
  drawn_apart = λ a b n h g x y. absurd h;
  inputs = λ a F h g. absurd h;
  levels = λ a F h g. absurd h;
  tickets = λ a h. absurd h;
  one_each = λ a b h g e. absurd h;
  clear = λ a b h g e c. h;
  floors = λ a h. absurd h;
  rising = tt;
  ids = λ p h. absurd h;
  snapshots = λ p h. absurd h;
}

no_files : IsLawful []
no_files = record {
  fits = λ F h. absurd h;
  numbers = λ F G h g e. absurd h;
  in_order = λ F G h g e l n. absurd h;
  depth = λ F G x y h g s k l e. absurd h;
}

pub created_law : (Honest : Type 0) → Law Honest created
created_law Honest = record {
  books = created_books;
  meaning = λ h. record { lawful = no_files; reached = λ e k. absurd k; are_open = λ a k. absurd k };
}
