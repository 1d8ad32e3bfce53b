use Rattle.std.proofs.Common.{◌+◌, length, ap, arith}
use Rattle.hs_outside.specs.MemStore.{put_in, total_len}
use Rattle.hs_outside.specs.MemFile.{files_of}
use Rattle.hs_outside.proofs.Slots.{content-counted, put_len-slot, put_len-none, room-slot, room-added, room-many, room-long, some_from_test, none_from_test}
use Rattle.hs_outside.proofs.mem_store.MemStore.has_room.Goals as goal

pub overflow_sub-others : goal.overflow_sub-others
overflow_sub-others c =
    let first = rw c.deref.ensures.value at c.in-Some.ensures.first in
    let counted = content-counted c.self.inside.files.items c.args.name.now c.in-Some.place c.index.result.now first c.index.ensures in
    omega (arith, counted, ap length c.content.ensures)

pub returns-in-Some : goal.returns-in-Some
returns-in-Some c =
    let slots = c.self.inside.files.items in
    let first = rw c.deref.ensures.value at c.in-Some.ensures.first in
    let counted = content-counted slots c.args.name.now c.in-Some.place c.index.result.now first c.index.ensures in
    let after = put_len-slot slots c.args.name.now c.args.bytes.now c.in-Some.place c.index.result.now first c.index.ensures in
    let len = ap length c.content.ensures in
    rw (← c.self.view_is) (room-slot _ _ _ _ _ _ _ (omega arith) (omega arith) (omega arith) (omega arith))

pub returns-then-is_empty : goal.returns-then-is_empty
returns-then-is_empty c =
    let none = rw c.deref.ensures.value at c.in-None.ensures.first in
    let after = put_len-none c.self.inside.files.items c.args.name.now c.args.bytes.now none in
    let empty = none_from_test _ _ c.is_empty.ensures c.if-is_empty.true in
    rw (← c.self.view_is) (room-many (length (put_in (files_of c.self.inside.files.items) c.args.name.now c.args.bytes.now)) (length c.self.inside.files.items + length c.self.inside.spare.items) _ (omega arith))

pub returns-then-left-name : goal.returns-then-left-name
returns-then-left-name c =
    let none = rw c.deref.ensures.value at c.in-None.ensures.first in
    let after = put_len-none c.self.inside.files.items c.args.name.now c.args.bytes.now none in
    rw (← c.self.view_is) (room-long (length c.args.bytes.now) (length c.args.name.now) c.self.inside.room c.self.inside.used _ _ (total_len (put_in (files_of c.self.inside.files.items) c.args.name.now c.args.bytes.now)) (omega arith) (c.if-left-name.true) (omega arith))

pub returns-else-left-name : goal.returns-else-left-name
returns-else-left-name c =
    let none = rw c.deref.ensures.value at c.in-None.ensures.first in
    let after = put_len-none c.self.inside.files.items c.args.name.now c.args.bytes.now none in
    let stocked = some_from_test _ _ c.is_empty.ensures c.if-is_empty.false in
    rw (← c.self.view_is) (room-added _ _ _ _ _ _ _ (omega arith) (omega arith) (omega arith) (omega arith))
