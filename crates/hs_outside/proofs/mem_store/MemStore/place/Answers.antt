use Rattle.std.proofs.Common.{◌≡◌, ◌+◌, List, [], ◌∷◌, ◌++◌, length, subst, ◌∙◌, ap, arith, refl, vec_capacity, length-set, length-append}
use Rattle.hs_outside.specs.MemFile.{Slot, IsStocked}
use Rattle.hs_outside.proofs.Stock.{PassesTest, replaced_fits, replaced_files, replaced_stock, added_spare, added_fits, added_files, added_stock}
use Rattle.hs_outside.proofs.mem_store.MemStore.place.Goals as goal

pub overflow_sub-self : goal.overflow_sub-self
overflow_sub-self c =
    let s = c.self.inside in
    let first = rw c.deref.ensures.value at c.in-Some.ensures.first in
    let fits = replaced_fits s.files.items s.spare.items _ s.used s.room c.args.name.now c.args.bytes.now c.in-Some.place c.index_mut-file.result.now c.self.invariant first c.index_mut-file.ensures.value (rw (← c.self.view_is) at c.requires) in
    omega (arith, fits.0, ap length c.content.ensures)

pub overflow_add-self : goal.overflow_add-self
overflow_add-self c =
    let s = c.self.inside in
    let first = rw c.deref.ensures.value at c.in-Some.ensures.first in
    let fits = replaced_fits s.files.items s.spare.items _ s.used s.room c.args.name.now c.args.bytes.now c.in-Some.place c.index_mut-file.result.now c.self.invariant first c.index_mut-file.ensures.value (rw (← c.self.view_is) at c.requires) in
    omega (arith, fits.1, ap length c.content.ensures)

pub set_content-requires : goal.set_content-requires
set_content-requires c =
    let s = c.self.inside in
    let first = rw c.deref.ensures.value at c.in-Some.ensures.first in
    (replaced_fits s.files.items s.spare.items _ s.used s.room c.args.name.now c.args.bytes.now c.in-Some.place c.index_mut-file.result.now c.self.invariant first c.index_mut-file.ensures.value (rw (← c.self.view_is) at c.requires)).2

pub invariant_of-self : goal.invariant_of-self
invariant_of-self c =
    let s = c.self.inside in
    let first = rw c.deref.ensures.value at c.in-Some.ensures.first in
    let stock = replaced_stock s.files.items s.spare.items s.files.cap s.used s.room c.args.name.now c.args.bytes.now c.in-Some.place c.index_mut-file.result.now c.self.invariant first c.index_mut-file.ensures.value (rw (← c.self.view_is) at c.requires) in
    rw (c.set_content.ensures, c.content.ensures) stock

pub unwrap-file-requires : goal.unwrap-file-requires
unwrap-file-requires c =
    let s = c.self.inside in
    let none = rw c.deref.ensures.value at c.in-None.ensures.first in
    c.pop.ensures.variant.1 (omega (arith, added_spare s.files.items s.spare.items s.room c.args.name.now c.args.bytes.now none (rw (← c.self.view_is) at c.requires)))

pub set_name-requires : goal.set_name-requires
set_name-requires c =
    let s = c.self.inside in
    let slot : Slot = c.unwrap-file.result in
    let rest : List Slot = c.pop.new.self.items in
    let none = rw c.deref.ensures.value at c.in-None.ensures.first in
    let spare_is : s.spare.items ≡ rest ++ slot ∷ [] = rw c.unwrap-file.ensures at c.pop.ensures.items in
    let stock = subst (λ (spare : List Slot). IsStocked s.files.items spare (vec_capacity s.files) s.used s.room) spare_is c.self.invariant in
    let test = subst (λ (spare : List Slot). PassesTest s.files.items spare s.room c.args.name.now c.args.bytes.now) spare_is (rw (← c.self.view_is) at c.requires) in
    let fits = added_fits s.files.items rest slot (vec_capacity s.files) s.used s.room c.args.name.now c.args.bytes.now stock none test in
    fits.0

pub set_content-requires-in-None : goal.set_content-requires-in-None
set_content-requires-in-None c =
    let s = c.self.inside in
    let slot : Slot = c.unwrap-file.result in
    let rest : List Slot = c.pop.new.self.items in
    let none = rw c.deref.ensures.value at c.in-None.ensures.first in
    let spare_is : s.spare.items ≡ rest ++ slot ∷ [] = rw c.unwrap-file.ensures at c.pop.ensures.items in
    let stock = subst (λ (spare : List Slot). IsStocked s.files.items spare (vec_capacity s.files) s.used s.room) spare_is c.self.invariant in
    let test = subst (λ (spare : List Slot). PassesTest s.files.items spare s.room c.args.name.now c.args.bytes.now) spare_is (rw (← c.self.view_is) at c.requires) in
    let fits = added_fits s.files.items rest slot (vec_capacity s.files) s.used s.room c.args.name.now c.args.bytes.now stock none test in
    rw c.set_name.ensures fits.1

pub overflow_add-self-in-None-2 : goal.overflow_add-self-in-None-2
overflow_add-self-in-None-2 c =
    let s = c.self.inside in
    let slot : Slot = c.unwrap-file.result in
    let rest : List Slot = c.pop.new.self.items in
    let none = rw c.deref.ensures.value at c.in-None.ensures.first in
    let spare_is : s.spare.items ≡ rest ++ slot ∷ [] = rw c.unwrap-file.ensures at c.pop.ensures.items in
    let stock = subst (λ (spare : List Slot). IsStocked s.files.items spare (vec_capacity s.files) s.used s.room) spare_is c.self.invariant in
    let test = subst (λ (spare : List Slot). PassesTest s.files.items spare s.room c.args.name.now c.args.bytes.now) spare_is (rw (← c.self.view_is) at c.requires) in
    let fits = added_fits s.files.items rest slot (vec_capacity s.files) s.used s.room c.args.name.now c.args.bytes.now stock none test in
    omega (arith, fits.2)

pub invariant_of-self-in-None : goal.invariant_of-self-in-None
invariant_of-self-in-None c =
    let s = c.self.inside in
    let slot : Slot = c.unwrap-file.result in
    let rest : List Slot = c.pop.new.self.items in
    let none = rw c.deref.ensures.value at c.in-None.ensures.first in
    let spare_is : s.spare.items ≡ rest ++ slot ∷ [] = rw c.unwrap-file.ensures at c.pop.ensures.items in
    let stock = subst (λ (spare : List Slot). IsStocked s.files.items spare (vec_capacity s.files) s.used s.room) spare_is c.self.invariant in
    let test = subst (λ (spare : List Slot). PassesTest s.files.items spare s.room c.args.name.now c.args.bytes.now) spare_is (rw (← c.self.view_is) at c.requires) in
    let file : Slot = record slot { name = c.args.name.now; content = c.args.bytes.now } in
    let file_is : c.set_content-in-None.new.self ≡ file = c.set_content-in-None.ensures ∙ ap (λ (f : Slot). record f { content = c.args.bytes.now }) c.set_name.ensures in
    let files_are : c.push.new.self.items ≡ s.files.items ++ file ∷ [] = (rw c.unwrap.ensures at c.push.ensures.items) ∙ ap (λ (f : Slot). s.files.items ++ f ∷ []) file_is in
    rw files_are (added_stock s.files.items rest slot (vec_capacity s.files) (vec_capacity c.push.new.self) s.used s.room c.args.name.now c.args.bytes.now stock none test c.push.ensures.capacity)

pub returns-in-Some : goal.returns-in-Some
returns-in-Some c =
    let first = rw c.deref.ensures.value at c.in-Some.ensures.first in
    let files = replaced_files c.self.inside.files.items c.args.name.now c.args.bytes.now c.in-Some.place c.index_mut-file.result.now first c.index_mut-file.ensures.value in
    rw (← c.self.view_is) (rw (c.set_content.ensures, files, length-set c.self.inside.files.items c.in-Some.place (record c.index_mut-file.result.now { content = c.args.bytes.now })) refl)

pub returns-in-None : goal.returns-in-None
returns-in-None c =
    let s = c.self.inside in
    let slot : Slot = c.unwrap-file.result in
    let rest : List Slot = c.pop.new.self.items in
    let none = rw c.deref.ensures.value at c.in-None.ensures.first in
    let spare_is : s.spare.items ≡ rest ++ slot ∷ [] = rw c.unwrap-file.ensures at c.pop.ensures.items in
    let stock = subst (λ (spare : List Slot). IsStocked s.files.items spare (vec_capacity s.files) s.used s.room) spare_is c.self.invariant in
    let test = subst (λ (spare : List Slot). PassesTest s.files.items spare s.room c.args.name.now c.args.bytes.now) spare_is (rw (← c.self.view_is) at c.requires) in
    let file : Slot = record slot { name = c.args.name.now; content = c.args.bytes.now } in
    let file_is : c.set_content-in-None.new.self ≡ file = c.set_content-in-None.ensures ∙ ap (λ (f : Slot). record f { content = c.args.bytes.now }) c.set_name.ensures in
    let files_are : c.push.new.self.items ≡ s.files.items ++ file ∷ [] = (rw c.unwrap.ensures at c.push.ensures.items) ∙ ap (λ (f : Slot). s.files.items ++ f ∷ []) file_is in
    let named = added_files s.files.items c.args.name.now c.args.bytes.now slot.room none in
    let count : length (s.files.items ++ file ∷ []) + length rest ≡ length s.files.items + length s.spare.items = omega (arith, ap length spare_is, length-append s.files.items (file ∷ []), length-append rest (slot ∷ [])) in
    rw (← c.self.view_is) (rw (files_are, count, named) refl)
