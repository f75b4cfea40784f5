-- What the publisher's fields say of the view of its seat.
use Rattle.std.specs.Prelude.{◌≡◌, ℕ, ◌^◌, ◌<◌, ◌≤◌, true, Some, None, List, length}
use Rattle.lsm_pins.specs.declared.view.View.{View}
use Rattle.lsm_pins.specs.declared.slot_record.SlotRecord.{SlotRecord}
use Rattle.lsm_pins.specs.SlotRecord.{record_at}

pub record IsPublishersView (v : View) (id slot : ℕ) (records : List SlotRecord) : Type 0 where
  pub live : v.live ≡ true
  pub publishes : v.publishes ≡ true
  pub uncounted : v.count ≡ 0
  pub none_held : v.held ≡ None
  pub id_is : v.id ≡ id
  pub slot_is : v.slot ≡ slot
  pub told_is : v.told_id ≡ id
  pub records_are : v.records ≡ records
  pub slots_are : v.slots ≡ length records
  pub few : length records ≤ 64
  pub current_fits : slot < length records
  pub id_fits : id < 2 ^ 28
  pub current_is : (record_at records slot).id ≡ Some id
