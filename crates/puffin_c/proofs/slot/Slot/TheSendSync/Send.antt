-- What a slot owns may be sent to another thread, since each value that it may hold may be.
use mir.Raw.{raw}
use base.Shift.{Keyless}
use denote.Memory.{lone}
use denote.RawPtr.{Ptr}
use denote.Builtin.{RawPtr}
use denote.Param.Send.{IsSend, owning_send, struct_send, sendable}
use denote.Struct.Struct.{exits_of}
use denote.Struct.Owning.{shape, fields, to}
use Rattle.std_alloc.proofs.SendSync.{quiet, lies}
use Rattle.std.proofs.alloc.Global.TheSendSync as heap
use Rattle.std.proofs.Crossing.{frees}
use Rattle.std.specs.declared.alloc.Global.{Global}
use Rattle.std.specs.declared.option.Option.{Option}
use Rattle.std.specs.declared.option.Option.TheVariants.{None, Some}
use Rattle.puffin_c.specs.Owning.{owns_held, row_of, value_of}
use Rattle.puffin_c.proofs.Sending.{row_send}
use Rattle.puffin_c.specs.declared.held.Held.{Held}
use Rattle.puffin_c.specs.contracts.slot.Slot.{the_row, the_type}

held : (a : Global) (p : Ptr) (h : Option Held) → Keyless (owns_held a p h)
held a p None = tt
held a p (Some h) = (lies (row_of h) (row_send h) p (value_of h), frees.frees a (raw (lone (row_of h).mir)) p)

pub send : IsSend the_row
send = let ps : IsSend RawPtr = search sendable in
    owning_send the_type (ps, (heap.the_field_send, tt)) (λ d. held d.heap d.at d.held)
    (λ k. quiet (to the_type) (exits_of k (fields the_type)) ((struct_send (shape the_type) (ps, (heap.the_field_send, tt))).leaving k))
