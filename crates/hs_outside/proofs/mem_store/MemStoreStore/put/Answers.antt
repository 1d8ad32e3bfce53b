use Rattle.std.proofs.Common.{List, ℕ, ap, ◌∙◌, inl}
use Rattle.hs_outside.specs.MemStore.{StoreState, put_in}
use Rattle.hs_outside.proofs.Filing.{Puts-in}
use Rattle.hs_outside.proofs.mem_store.MemStoreStore.put.Goals as goal

pub returns-clause-filed : goal.returns-clause-filed
returns-clause-filed c =
    let put = ap (λ (s : StoreState). s.files) (c.self-2.view_is ∙ c.place.ensures) in
    let named = ap (λ (n : List ℕ). put_in c.args.self.now.files n c.args.bytes.now) c.as_bytes-name.ensures.value in
    Puts-in c.args.self.now.files _ c.args.name.now c.args.bytes.now (put ∙ named)

pub returns-clause-done : goal.returns-clause-done
returns-clause-done c = inl (returns-clause-filed c)
