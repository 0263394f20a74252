-- A keeper may go to another thread. The check doesn't find it by itself: `sqlite` notes the calls on a file in a `Record`,
-- and doesn't say of its type, which could own memory beside its fields, that it may go to another thread. It owns nothing.
use denote.Param.Send.{IsSend, owning_send, sendable}
use Rattle.sqlite.below.sqlite_disk.proofs.modelled.Modelled.TheSendSync as modelled
use Rattle.sqlite.below.sqlite_std_file.specs.contracts.host.Host as Host
use Rattle.sqlite.below.sqlite_std_file.specs.contracts.record.Record as Record
use Rattle.sqlite.below.sqlite_store.proofs.store.FileStore.TheSendSync as file_store
use Rattle.sqlite.below.sqlite_trees.proofs.memory.MemStore.TheSendSync as memory_store
use Rattle.sqlite.proofs.connection.Connection.TheSendSync as connection
use Rattle.std.proofs.fs.File.TheSendSync as file
use Rattle.vr_keeper_sql.specs.contracts.keeper.SqlKeeper as SqlKeeper

record_send : IsSend Record.the_row
record_send = owning_send Record.the_type (search sendable, tt) (λ d. tt) (λ k x w. tt)

host_send : IsSend Host.the_row
host_send = search (file.the_field_send, record_send, sendable)

ruleset in_memory = (connection.the_send, memory_store.the_send)

ruleset on_disk = (connection.the_send, file_store.the_send, modelled.the_send, host_send)

pub sql_keeper_send : IsSend SqlKeeper.the_row
sql_keeper_send = search (in_memory, on_disk, sendable) depth 20
