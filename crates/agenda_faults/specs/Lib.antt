pub mod FaultLines
pub mod Faults
pub mod MachineLines
pub mod Status
