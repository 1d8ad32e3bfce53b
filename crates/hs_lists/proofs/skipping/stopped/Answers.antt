use Rattle.std.proofs.Common.{◌≡◌, ℕ, subst}
use Rattle.hs_outside.specs.declared.fault.StoreFault.{StoreFault}
use Rattle.hs_outside.specs.Store.{Told, Refuses}
use Rattle.hs_lists.specs.Endings.{no_list, list_failed}
use Rattle.hs_lists.proofs.skipping.stopped.Goals as goal

-- the fault that came is this one
refused_by : (fault other : StoreFault) (told : Told) (before now : ℕ) → fault ≡ other → Refuses fault told before now → Refuses other told before now
refused_by fault other told before now is refuses = subst (λ f. Refuses f told before now) is refuses

pub returns-in-Absent : goal.returns-in-Absent
returns-in-Absent c kind told before now refuses = let stops = refused_by _ _ told before now c.in-Absent.is refuses in no_list stops.0 stops.1

pub returns-in-Failed : goal.returns-in-Failed
returns-in-Failed c kind told before now refuses = let stops = refused_by _ _ told before now c.in-Failed.is refuses in list_failed stops.1
