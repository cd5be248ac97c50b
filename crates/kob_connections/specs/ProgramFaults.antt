-- What each fault is for a program: out of memory stays what it is.
use Rattle.kob_names.specs.declared.principal.PrincipalFault.{PrincipalFault}
use Rattle.kob_names.specs.declared.principal.PrincipalFault.TheVariants as of_principal
use Rattle.kob_names.specs.declared.host.HostFault.{HostFault}
use Rattle.kob_names.specs.declared.host.HostFault.TheVariants as of_host
use Rattle.kob_router.specs.declared.fault.RouteFault.{RouteFault}
use Rattle.kob_router.specs.declared.fault.RouteFault.TheVariants as of_route
use Rattle.kob_broker.specs.declared.open_fault.OpenFault.{OpenFault}
use Rattle.kob_broker.specs.declared.open_fault.OpenFault.TheVariants as of_opening
use Rattle.kob_outbox.specs.declared.fault.RecordFault.{RecordFault}
use Rattle.kob_outbox.specs.declared.fault.RecordFault.TheVariants as of_record
use Rattle.kob_outbox.specs.declared.fault.OutboxFault.{OutboxFault}
use Rattle.kob_outbox.specs.declared.fault.OutboxFault.TheVariants as of_outbox
use Rattle.kob_inbox.specs.declared.fault.InboxFault.{InboxFault}
use Rattle.kob_inbox.specs.declared.fault.InboxFault.TheVariants as of_inbox
use Rattle.kob_shared.specs.declared.faults.CallFault.{CallFault}
use Rattle.kob_shared.specs.declared.faults.CallFault.TheVariants as of_call
use Rattle.kob_connections.specs.declared.program_fault.ProgramFault.{ProgramFault}
use Rattle.kob_connections.specs.declared.program_fault.ProgramFault.TheVariants.{Memory, BadText, NotBegun, NotRecorded, Store, NotServed}

abbrev pub fault_of_principal : PrincipalFault → ProgramFault
fault_of_principal (of_principal.Memory refused) = Memory refused
fault_of_principal _ = BadText

abbrev pub fault_of_host : HostFault → ProgramFault
fault_of_host (of_host.Memory refused) = Memory refused
fault_of_host _ = BadText

abbrev pub fault_of_route : RouteFault → ProgramFault
fault_of_route (of_route.Memory refused) = Memory refused
fault_of_route _ = BadText

abbrev pub fault_of_opening : OpenFault → ProgramFault
fault_of_opening (of_opening.Memory refused) = Memory refused
fault_of_opening of_opening.TooMany = NotBegun

abbrev pub fault_of_record : RecordFault → ProgramFault
fault_of_record (of_record.Memory refused) = Memory refused
fault_of_record of_record.Store = Store
fault_of_record _ = NotRecorded

abbrev pub fault_of_outbox : OutboxFault → ProgramFault
fault_of_outbox (of_outbox.Memory refused) = Memory refused
fault_of_outbox of_outbox.Store = Store

abbrev pub fault_of_inbox : InboxFault → ProgramFault
fault_of_inbox (of_inbox.Memory refused) = Memory refused
fault_of_inbox of_inbox.Store = Store

abbrev pub fault_of_call : CallFault → ProgramFault
fault_of_call (of_call.Memory refused) = Memory refused
fault_of_call _ = NotServed
