-- The causes by which a script or the scan of a file is broken off.
use Rattle.hs_tool.specs.declared.session.fault.ScriptStop.{ScriptStop}
use Rattle.hs_tool.specs.declared.session.fault.ScriptStop.TheVariants.{Fault, Broken, Store, Memory}
use Rattle.hs_reader.specs.declared.fault.Break.TheVariants.{Read, Limit, Write}
use Rattle.hs_lists.specs.Causes.{Cause, read, write, store, absent, limit, script, memory}
use Rattle.std.specs.Prelude.{ℕ, List, Option, Some, None, Result, Ok, Err}
use Rattle.hs_tool.specs.declared.scan.ScanFault.{ScanFault}
use Rattle.hs_tool.specs.declared.scan.ScanFault.TheVariants as scan

-- the cause that it is
abbrev pub cause_of_stop : ScriptStop → Cause
cause_of_stop (Fault fault) = script fault
cause_of_stop (Broken Read) = read
cause_of_stop (Broken Limit) = limit
cause_of_stop (Broken Write) = write
cause_of_stop Store = store
cause_of_stop Memory = memory

-- the cause that a fault of the scan of this file is
abbrev pub cause_of_scan : List ℕ → ScanFault → Cause
cause_of_scan file scan.Absent = absent file
cause_of_scan file scan.Store = store
cause_of_scan file scan.Write = write
cause_of_scan file scan.Limit = limit
cause_of_scan file scan.Memory = memory

-- how the scan of this file ended: nothing, where it was done, else the cause
abbrev pub outcome_of_scan : List ℕ → Result (Unit {0}) ScanFault → Option Cause
outcome_of_scan file (Ok done) = None
outcome_of_scan file (Err fault) = Some (cause_of_scan file fault)
