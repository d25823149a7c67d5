-- A request that was read is played with the first bytes of the filled output.
use Rattle.client_player.proofs.Playing.{ordered}
use Rattle.client_player.proofs.play.OnMemoryPlay.play_request.Goals as goal

pub returns-in-Some : goal.returns-in-Some
returns-in-Some c =
    let s = c.args in
    let r = c.read_request in
    let e = rw c.out_len.ensures at c.first_mut.ensures in
    let p = c.play_order.ensures in
    let q = ordered s.m _ r.new.a r.new.b r.new.d s.line.now s.text.now c.in-Some.is r.ensures e p.value p.text_after in
    record { value = q.0; text_after = q.1 }
