-- That the server may cross threads. A cursor holds queries, expressions and rows, these hold themselves, and a row has a
-- document; one search through all that the server holds does not end, so it is shown level by level, from a row on.
use denote.Param.Send.{IsSend, IsSync, sendable}
use Rattle.std.proofs.Crossing.{crosses}
use Rattle.std.proofs.MapsCrossing as maps
use Rattle.std.proofs.alloc.Global.TheSendSync as global
use Rattle.ft_engine.below.expr_eval.proofs.tree.Expr.TheLaws.TheKnot as expr
use Rattle.ft_base.proofs.doc.Doc.TheSendSync as doc
use Rattle.ft_base.proofs.query.Query.TheLaws.TheKnot as query
use Rattle.ft_base.proofs.row.Value.TheLaws.TheKnot as value
use Rattle.ft_engine.below.ft_index.proofs.index.FtIndex.TheSendSync as ft_index
use Rattle.ft_engine.below.hash_store.proofs.store.HashStore.TheSendSync as hash_store
use Rattle.ft_engine.below.indexed_store.proofs.waiting.CursorPlace.TheSendSync as cursor_place
use Rattle.turn_gate.proofs.gate.Gate.TheSendSync as gate
use Rattle.ft_base.specs.contracts.row.Row as row
use Rattle.ft_engine.below.agg_pipeline.specs.contracts.stream.StreamSteps as steps
use Rattle.ft_engine.below.cursor_book.specs.contracts.rows_left.RowsLeft as rows_left
use Rattle.ft_engine.below.cursor_book.specs.contracts.cursor.Cursor as cursor
use Rattle.ft_engine.below.cursor_book.specs.contracts.book.CursorBook as book
use Rattle.ft_engine.below.indexed_store.specs.contracts.held.IndexedStore as store
use Rattle.ft_engine.specs.contracts.engine.Engine as engine
use Rattle.ft_server.specs.contracts.logged_engine.LoggedEngine as logged
use Rattle.ft_server.specs.contracts.server.Server as server

row_send : IsSend row.the_row
row_send = search (doc.the_send, value.crosses, crosses, sendable) depth 60 fits 20000

row_sync : IsSync row.the_row
row_sync = search (doc.the_sync, value.crosses, crosses, sendable) depth 60 fits 20000

rows_left_send : IsSend rows_left.the_row
rows_left_send = search (row_send, crosses, sendable) depth 60 fits 20000

rows_left_sync : IsSync rows_left.the_row
rows_left_sync = search (row_sync, crosses, sendable) depth 60 fits 20000

steps_send : IsSend steps.the_row
steps_send = search (expr.crosses, crosses, sendable) depth 60 fits 20000

steps_sync : IsSync steps.the_row
steps_sync = search (expr.crosses, crosses, sendable) depth 60 fits 20000

cursor_send : IsSend cursor.the_row
cursor_send = search (rows_left_send, steps_send, query.crosses, crosses, sendable) depth 60 fits 20000

cursor_sync : IsSync cursor.the_row
cursor_sync = search (rows_left_sync, steps_sync, query.crosses, crosses, sendable) depth 60 fits 20000

book_send : IsSend book.the_row
book_send = search (cursor_send, crosses, sendable) depth 60 fits 20000

book_sync : IsSync book.the_row
book_sync = search (cursor_sync, crosses, sendable) depth 60 fits 20000

store_send : IsSend store.the_row
store_send =
    search (book_send, ft_index.the_send, hash_store.the_send, cursor_place.the_send, global.the_field_send, crosses, maps.crosses, sendable)
    depth 60 fits 20000

store_sync : IsSync store.the_row
store_sync =
    search (book_sync, ft_index.the_sync, hash_store.the_sync, cursor_place.the_sync, global.the_field_sync, crosses, maps.crosses, sendable)
    depth 60 fits 20000

engine_send : IsSend engine.the_row
engine_send = search (store_send, crosses, maps.crosses, sendable) depth 60 fits 20000

engine_sync : IsSync engine.the_row
engine_sync = search (store_sync, crosses, maps.crosses, sendable) depth 60 fits 20000

pub logged_send : IsSend logged.the_row
logged_send = search (engine_send, crosses, maps.crosses, sendable) depth 60 fits 20000

pub server_send : IsSend server.the_row
server_send = search (logged_send, gate.the_send, crosses, maps.crosses, sendable) depth 60 fits 20000

pub server_sync : IsSync server.the_row
server_sync = search (logged_send, gate.the_sync, crosses, maps.crosses, sendable) depth 60 fits 20000
