-- What the reader of a list of entries holds, as entries and lines.
use Rattle.lsm_codec.specs.Entries.{Entry}
use Rattle.lsm_text.specs.declared.entry_buffer.EntryBuffer.{EntryBuffer}

abbrev pub entry_of : EntryBuffer → Entry
entry_of b = record { user = b.user.items; seq = b.seq; kind = b.kind; value = b.value.items }
