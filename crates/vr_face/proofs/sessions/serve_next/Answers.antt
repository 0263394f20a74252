use Rattle.std.proofs.Common.{◌≡◌}
use Rattle.vr_face.proofs.NextLemmas.{closed_next, cut_next, refused_next, request_next, same_bytes, unread_next, unserved_next}
use Rattle.vr_face.proofs.sessions.serve_next.Goals as goal

pub returns-in-Ok-Some-clause-serves : goal.returns-in-Ok-Some-clause-serves
returns-in-Ok-Some-clause-serves g c =
    let same : g.L.Sink.written c.read_request.new.source ≡ g.L.Sink.written c.args.link.now =
    same_bytes _ _ _ _ _ _ (g.met.L.Link.beside_source c.args.link.now) (g.met.L.Link.beside_source c.read_request.new.source)
    c.read_request.ensures.beside in
    let takes = rw c.in-Ok-Some.field-0-is at c.in-Ok-Some.ensures.takes in
    rw (← same, c.serve_request.ensures.serves.stream)
    (request_next _ _ _ _ _ _ _ _ _ _ _ _ _ c.in-Ok-Some.request takes c.serve_request.result c.serve_request.ensures.serves)

pub returns-in-Ok-None-clause-serves : goal.returns-in-Ok-None-clause-serves
returns-in-Ok-None-clause-serves g c =
    let same : g.L.Sink.written c.read_request.new.source ≡ g.L.Sink.written c.args.link.now =
    same_bytes _ _ _ _ _ _ (g.met.L.Link.beside_source c.args.link.now) (g.met.L.Link.beside_source c.read_request.new.source)
    c.read_request.ensures.beside in
    let takes = rw c.in-Ok-None.field-0-is at c.in-Ok-None.ensures.takes in
    rw same (closed_next _ _ _ _ _ _ _ _ takes)

pub returns-in-Err-CutShort-clause-serves : goal.returns-in-Err-CutShort-clause-serves
returns-in-Err-CutShort-clause-serves g c =
    let same : g.L.Sink.written c.read_request.new.source ≡ g.L.Sink.written c.args.link.now =
    same_bytes _ _ _ _ _ _ (g.met.L.Link.beside_source c.args.link.now) (g.met.L.Link.beside_source c.read_request.new.source)
    c.read_request.ensures.beside in
    let takes = rw c.in-Err-CutShort.field-0-is at c.in-Err-CutShort.ensures.takes in
    rw same (cut_next _ _ _ _ _ _ _ _ takes)

pub returns-in-Err-ReadFault-clause-serves : goal.returns-in-Err-ReadFault-clause-serves
returns-in-Err-ReadFault-clause-serves g c =
    let same : g.L.Sink.written c.read_request.new.source ≡ g.L.Sink.written c.args.link.now =
    same_bytes _ _ _ _ _ _ (g.met.L.Link.beside_source c.args.link.now) (g.met.L.Link.beside_source c.read_request.new.source)
    c.read_request.ensures.beside in
    rw same (unread_next _ _ _ _ _ _ _ _)

pub returns-in-Err-OutOfMemory-clause-serves : goal.returns-in-Err-OutOfMemory-clause-serves
returns-in-Err-OutOfMemory-clause-serves g c =
    let same : g.L.Sink.written c.read_request.new.source ≡ g.L.Sink.written c.args.link.now =
    same_bytes _ _ _ _ _ _ (g.met.L.Link.beside_source c.args.link.now) (g.met.L.Link.beside_source c.read_request.new.source)
    c.read_request.ensures.beside in
    rw same (unserved_next _ _ _ _ _ _ _ _)

pub returns-in-Err-clause-serves : goal.returns-in-Err-clause-serves
returns-in-Err-clause-serves g c =
    let same : g.L.Sink.written c.read_request.new.source ≡ g.L.Sink.written c.args.link.now =
    same_bytes _ _ _ _ _ _ (g.met.L.Link.beside_source c.args.link.now) (g.met.L.Link.beside_source c.read_request.new.source)
    c.read_request.ensures.beside in
    rw (← same, c.refuse.ensures.left)
    (refused_next _ _ _ _ _ _ _ c.in-Err.fault _ _ c.refuse.result c.in-Err.ensures.takes c.refuse.ensures.refuses)
