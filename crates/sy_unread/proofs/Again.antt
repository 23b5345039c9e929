-- What is read of a record is what stands in it.
use Rattle.std.proofs.Common.{◌≡◌, ℕ, List, sym, ◌∙◌}
use Rattle.sy_unread.specs.Records.{head}
use Rattle.sy_unread.specs.Reading.{Says}
use Rattle.sy_unread.specs.declared.record.About.{About}
use Rattle.sy_unread.specs.declared.reading.Found.{Found}

pub head_same : (found : Found) (a b : About) (part : List ℕ) → Says found a → Says found b → head a part ≡ head b part
head_same found a b part p q =
    let relay : a.relay.now ≡ b.relay.now = p.relay ∙ sym q.relay in
    let input : a.input ≡ b.input = p.input ∙ sym q.input in
    let peer : a.peer.now ≡ b.peer.now = p.peer ∙ sym q.peer in
    let frame : a.frame ≡ b.frame = p.frame ∙ sym q.frame in
    let fault : a.fault.now ≡ b.fault.now = p.fault ∙ sym q.fault in
    let at : a.at ≡ b.at = p.at ∙ sym q.at in
    let length : a.length ≡ b.length = p.length ∙ sym q.length in
    rw (relay, input, peer, frame, fault, at, length)
