-- What the call on exchange records promises (`Heading`); what its faults say (`Said`), and what is found on the way (`Looking`).
pub mod Said
pub mod Looking
pub mod Heading
