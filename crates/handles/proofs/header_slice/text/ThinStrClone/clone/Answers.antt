use Rattle.handles.proofs.header_slice.text.ThinStrClone.clone.Goals as goal

-- a clone of the handle has the same text
pub invariant_of-result : goal.invariant_of-result
invariant_of-result g c = rw c.in_ok-clone.ensures.cases c.self.invariant
