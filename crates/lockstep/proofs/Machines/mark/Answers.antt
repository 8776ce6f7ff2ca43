use Rattle.lockstep.proofs.Machines.mark.Goals as goal

pub returns-in-Ecall : goal.returns-in-Ecall
returns-in-Ecall c = λ b. rw c.in-Ecall.is (c.mark_read.ensures b)
