-- What a pinner's fields say of the view of its seat.
use Rattle.std.specs.Prelude.{◌≡◌, ℕ, ◌^◌, ◌<◌, ◌≤◌, true, false, Option, Some}
use Rattle.lsm_pins.specs.declared.view.View.{View}

pub record IsPinnersView (v : View) (id slot count : ℕ) (held : Option (ℕ × ℕ)) : Type 0 where
  pub live : v.live ≡ true
  pub reads : v.publishes ≡ false
  pub part : v.parts ≡ 1
  pub id_is : v.id ≡ id
  pub slot_is : v.slot ≡ slot
  pub count_is : v.count ≡ count
  pub few : count ≤ 2 ^ 24
  pub held_is : v.held ≡ held
  pub few_slots : v.slots ≤ 64
  pub within : (i s : ℕ) → held ≡ Some (i, s) → s < v.slots
  pub held_below : (i s : ℕ) → held ≡ Some (i, s) → i ≤ id
