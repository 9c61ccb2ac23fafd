-- Normal forms: one form, its answers and planes, equal forms (Normal); a form by splitting at the listed planes (Build); boundary planes by a walk on the plane (OnPlane).
pub mod Normal
pub mod Build
pub mod OnPlane
